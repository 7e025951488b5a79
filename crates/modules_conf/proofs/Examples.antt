-- Worked examples of the two texts.
use Rattle.std.specs.Prelude.{◌≡◌, refl, codes, [], ◌∷◌, ◌++◌, Some, None, Ok}
use Rattle.modules_conf.specs.Cost.{cost_number}
use Rattle.modules_conf.specs.Modules.{edge_lines, passed_lines, conf_of}
use Rattle.modules_conf.specs.Bindings.{bind_fault, bindings_of}
use Rattle.modules_conf.specs.declared.fault.BindFault.TheVariants.{BadKind, WordCount, Twice, BadWord}
use Rattle.modules_conf.specs.declared.kind.Kind.TheVariants.{Table, Iso2022Jp, Recode}

pub three_lines : edge_lines (codes "module SA// SB// DIR 3" ++ 10 ∷ codes "module SA// INTERNAL TA 1" ++ 10 ∷ codes "module INTERNAL SB// TB 1 # x") ≡
    record { line = 1; source = codes "SA//"; target = codes "SB//"; «module» = codes "DIR"; cost = 3 }
    ∷ record { line = 2; source = codes "SA//"; target = codes "INTERNAL//"; «module» = codes "TA"; cost = 1 }
    ∷ record { line = 3; source = codes "INTERNAL//"; target = codes "SB//"; «module» = codes "TB"; cost = 1 } ∷ []
three_lines = refl

pub usual_conf : conf_of (codes "# from to" ++ 10 ∷ codes "alias LATIN1// ISO-8859-1//" ++ 10 ∷ 10 ∷ codes "module INTERNAL ISO-8859-1// ISO8859-1 0 x" ++ 10 ∷ codes "modules A B C" ++ 10 ∷ []) ≡ Ok (record {
  edges = record { line = 4; source = codes "INTERNAL//"; target = codes "ISO-8859-1//"; «module» = codes "ISO8859-1"; cost = 1 } ∷ [];
  aliases = record { line = 2; alias = codes "LATIN1//"; original = codes "ISO-8859-1//" } ∷ [];
  passed = 1;
})
usual_conf = refl

pub passes : passed_lines (codes "module A" ++ 10 ∷ codes "# x" ++ 10 ∷ codes "alias x y" ++ 10 ∷ codes "alias // y") ≡ 2
passes = refl

pub largest_cost : cost_number (codes "002147483647") ≡ Some 2147483647
largest_cost = refl

pub larger_cost : cost_number (codes "2147483648") ≡ None
larger_cost = refl

pub signed_cost : cost_number (codes "+1") ≡ None
signed_cost = refl

pub three_bindings : bindings_of (codes "DIR recode CA CB" ++ 10 ∷ codes "TA table CA" ++ 10 ∷ codes " # a" ++ 10 ∷ codes "TB iso2022jp CB C(1)") ≡ Ok (
    record { line = 1; name = codes "DIR"; kind = Recode (codes "CA") (codes "CB") }
    ∷ record { line = 2; name = codes "TA"; kind = Table (codes "CA") }
    ∷ record { line = 4; name = codes "TB"; kind = Iso2022Jp (codes "CB") (codes "C(1)") } ∷ [])
three_bindings = refl

pub bad_kind : bind_fault (codes "X tabel C") ≡ Some (BadKind 1)
bad_kind = refl

pub no_map : bind_fault (codes "X table") ≡ Some (WordCount 1)
no_map = refl

pub two_tables : bind_fault (codes "X table C D") ≡ Some (WordCount 1)
two_tables = refl

pub one_word : bind_fault (codes "X") ≡ Some (WordCount 1)
one_word = refl

pub bad_word : bind_fault (codes "X table ../C") ≡ Some (BadWord 1)
bad_word = refl

pub twice : bind_fault (codes "X table C" ++ 10 ∷ codes "X table C") ≡ Some (Twice 2)
twice = refl

pub word_before_twice : bind_fault (codes "X table C" ++ 10 ∷ codes "X table .C" ++ 10 ∷ codes "Y") ≡ Some (BadWord 2)
word_before_twice = refl
