use Rattle.std.proofs.Common.{◌≡◌, ◌∙◌, List, ℕ, subst, IfSome}
use Rattle.text_lines.specs.Limits.{longest_text}
use Rattle.outside.specs.Shelves.{content_of}
use Rattle.outside.specs.Takes.{Takes}
use Rattle.runtime_histories.specs.Settings.{Source, path_of}
use Rattle.charmap_library.specs.Fetching.{source_of}
use Rattle.charmap_library.proofs.Fetching.{one_ok, one_err}
use Rattle.charmap_library.proofs.fetch.fetch_one.Goals as goal

pub returns-clause-ok : goal.returns-clause-ok
returns-clause-ok g c =
    let a = g.L.Library.holdings c.args.library.now in
    let b = g.L.Library.holdings c.fetch-fetched.new.self in
    let at = c.as_str.ensures.value ∙ c.in-Ok.ensures in
    let took : IfSome a.told (λ shelf. Takes (content_of shelf (path_of c.args.dir.now c.args.word.now)) longest_text c.fetch-fetched.result) =
    subst (λ (p : List ℕ). IfSome a.told (λ shelf. Takes (content_of shelf p) longest_text c.fetch-fetched.result)) at c.fetch-fetched.ensures.fetched in
    one_ok c.args.dir.now a b c.args.«module» c.args.word.now c.as_str.result.now c.fetch-fetched.result at c.fetch-fetched.ensures.told c.fetch-fetched.ensures.paths c.fetch-fetched.ensures.count
    c.table_from.result (c.table_from.ensures.ok (source_of c.args.dir.now a) took) c.table_from.ensures.memory

pub returns-clause-err : goal.returns-clause-err
returns-clause-err g c =
    let a = g.L.Library.holdings c.args.library.now in
    let b = g.L.Library.holdings c.fetch-fetched.new.self in
    let at = c.as_str.ensures.value ∙ c.in-Ok.ensures in
    let took : IfSome a.told (λ shelf. Takes (content_of shelf (path_of c.args.dir.now c.args.word.now)) longest_text c.fetch-fetched.result) =
    subst (λ (p : List ℕ). IfSome a.told (λ shelf. Takes (content_of shelf p) longest_text c.fetch-fetched.result)) at c.fetch-fetched.ensures.fetched in
    one_err c.args.dir.now a b c.args.«module» c.args.word.now c.as_str.result.now c.fetch-fetched.result at c.fetch-fetched.ensures.told c.fetch-fetched.ensures.paths c.fetch-fetched.ensures.count
    c.table_from.result (c.table_from.ensures.err (source_of c.args.dir.now a) took) c.table_from.ensures.failed c.fetch-fetched.ensures.failed c.table_from.ensures.memory
