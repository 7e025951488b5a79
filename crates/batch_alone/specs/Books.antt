-- The runtime of one thread at a moment, and what is kept of it from job to job.
use Rattle.std.specs.Prelude.{◌≡◌, ◌≤◌, ℕ, ◌+◌, ◌*◌, List, [], length}
use Rattle.outside.specs.Faults.{RoseBy}
use Rattle.outside.specs.Moments.{Holdings}
use Rattle.runtime_histories.specs.declared.entries.Entry.{Entry}
use Rattle.runtime_histories.specs.Settings.{Setting}
use Rattle.runtime_histories.specs.Legal.{Legal}
use Rattle.runtime_histories.specs.Fetches.{FetchesFrom}
use Rattle.modules_conf.specs.declared.conf.Conf.{Conf}
use Rattle.modules_conf.specs.declared.bindings.Binding.{Binding}
use Rattle.batch_jobs.specs.Jobs.{Text}
use Rattle.batch_runs.specs.Meanings.{AskedSince, IsSettingOf}

-- a runtime: its setting, the limit of its journal, its whole history, how many live descriptors it
-- has, and its library
pub record Book : Type 0 where
  pub setting : Setting
  pub limit : ℕ
  pub journal : List Entry
  pub live : ℕ
  pub library : Holdings

-- the limit of the journal leaves room for the two entries of a job, were each entry still to be closed
abbrev pub HasPlace : Book → Type 0
HasPlace book = 2 * length book.journal + 2 ≤ book.limit

-- what no call changes, and that the library's count of faults rises by as many as are told
pub record Keeps (old new : Book) (told_faults : ℕ) : Type 0 where
  pub setting : new.setting ≡ old.setting
  pub limit : new.limit ≡ old.limit
  pub told : new.library.told ≡ old.library.told
  pub faults : RoseBy told_faults old.library.faults new.library.faults

-- the library was asked for exactly what these entries ask for behind the others
abbrev pub HasAsked : Book → Book → List Entry → Type 0
HasAsked old new entries =
    AskedSince (FetchesFrom old.setting old.journal entries) old.library.paths new.library.paths

-- a runtime that has no entry
pub record IsNew (conf : Conf) (bindings : List Binding) (folder : Text) (pages most : ℕ)
    (given : Holdings) (book : Book) : Type 0 where
  pub setting : IsSettingOf conf bindings folder pages given.told book.setting
  pub limit : book.limit ≡ most
  pub journal : book.journal ≡ []
  pub live : book.live ≡ 0
  pub library : book.library ≡ given

-- what is handed out at the end
pub record Ends (book : Book) (left : Holdings) (entries : List Entry) : Type 0 where
  pub library : left ≡ book.library
  pub journal : entries ≡ book.journal
  pub legal : Legal book.setting entries
