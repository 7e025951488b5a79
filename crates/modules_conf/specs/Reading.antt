-- What a reader that stands between two lines of a gconv-modules text will answer. No public clause cites
-- it.
use Rattle.std.specs.Prelude.{◌≡◌, ℕ, ◌+◌, ◌≤◌, List, ◌∷◌, ◌++◌, length, Result, Err}
use Rattle.std.specs.List.{enumerate_from}
use Rattle.modules_conf.specs.Modules.{edges_among, aliases_among, passed_among, checked_conf}
use Rattle.modules_conf.specs.Numbers.{most_lines}
use Rattle.modules_conf.specs.declared.conf.Conf.{Conf}
use Rattle.modules_conf.specs.declared.fault.ConfFault.{ConfFault}

-- The configuration that was read so far, with what the numbered lines that are left add.
unfoldable pub conf_with : Conf → List (ℕ × List ℕ) → Result Conf ConfFault
conf_with conf ps =
    checked_conf (record {
      edges = conf.edges ++ edges_among ps;
      aliases = conf.aliases ++ aliases_among ps;
      passed = conf.passed + passed_among ps;
    })

-- No kind of line is beyond its limit.
pub record IsFewEnough (conf : Conf) : Type 0 where
  pub edges : length conf.edges ≤ most_lines
  pub aliases : length conf.aliases ≤ most_lines

-- The new configuration has one line more, whatever lines follow.
abbrev pub Takes : Conf → ℕ → List ℕ → Conf → Type 0
Takes old number line new = (ls : List (List ℕ))
    → conf_with old ((number, line) ∷ enumerate_from (number + 1) ls) ≡ conf_with new (enumerate_from (number + 1) ls)

-- The line is refused, whatever lines follow.
abbrev pub Refuses : Conf → ℕ → List ℕ → ConfFault → Type 0
Refuses old number line fault = (ls : List (List ℕ))
    → conf_with old ((number, line) ∷ enumerate_from (number + 1) ls) ≡ Err fault
