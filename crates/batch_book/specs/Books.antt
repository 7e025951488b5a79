-- What a batch sees of the runtime of one thread.
use Rattle.std.specs.Prelude.{Bool, true, false, length}
use Rattle.runtime_histories.specs.declared.refusals.Refusal.{Refusal}
use Rattle.runtime_histories.specs.declared.refusals.Refusal.TheVariants.{JournalFull}
use Rattle.conversion_book.specs.Runtime.{Runtime, setting_of}
use Rattle.batch_alone.specs.Books.{Book}

-- the setting, the limit, the history, the number of live descriptors, and the library
abbrev pub book_of : Runtime → Book
book_of r = record {
  setting = setting_of r;
  limit = r.books.limit;
  journal = r.books.journal;
  live = length r.held;
  library = r.library;
}

-- a refusal that says that the journal is full
abbrev pub is_full : Refusal → Bool
is_full (JournalFull count) = true
is_full _ = false
