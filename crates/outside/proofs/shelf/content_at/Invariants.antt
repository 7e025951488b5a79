use Rattle.std.proofs.Common.{◌≡◌, drop}
use Rattle.outside.specs.Shelves.{content_of}
use Rattle.outside.specs.Stored.{shelf_of}
use Rattle.outside.proofs.shelf.content_at.Given as goal

abbrev pub invariant-loop-file : goal.invariant-loop-file
invariant-loop-file l =
    content_of (shelf_of (drop l.file-index l.files)) l.name ≡ content_of (shelf_of l.files) l.name
