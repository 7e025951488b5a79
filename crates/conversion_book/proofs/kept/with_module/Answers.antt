use Rattle.std.proofs.Common.{◌≡◌, ◌∙◌, ◌++◌, [], List, map, sym, ap, subst, append-nil, IfOk}
use Rattle.code_pairs.specs.Tables.{Tables}
use Rattle.runtime_histories.specs.Deeds.{Loaded}
use Rattle.conversion_book.specs.ChainTables.{tables_of}
use Rattle.conversion_book.specs.Descriptors.{kept_as}
use Rattle.conversion_book.proofs.Loading.{none_case, some_case}
use Rattle.conversion_book.proofs.kept.with_module.Goals as goal

pub returns-in-Some-find_tables : goal.returns-in-Some-find_tables
returns-in-Some-find_tables c =
    let K : List Loaded = map kept_as c.args.kept.now in
    let L : List Loaded = map kept_as c.args.loaded.now in
    let m = c.args.«module» in
    let first : tables_of m (K ++ L) ≡ tables_of m L = none_case _ _ _ c.in-None.is (c.find_tables.ensures L) in
    let second : tables_of m (L ++ []) ≡ c.in-Some-find_tables.tables.now = some_case _ _ _ _ c.in-Some-find_tables.is (c.find_tables-in-None.ensures []) in
    let is : tables_of m (K ++ L) ≡ c.in-Some-find_tables.tables.now = first ∙ (ap (tables_of m) (sym (append-nil L)) ∙ second) in
    subst (λ (z : Tables). IfOk c.with-in-Some-find_tables.result (λ t. t ≡ c.args.all ++ z)) (sym is) c.with-in-Some-find_tables.ensures

pub returns-in-None-find_tables : goal.returns-in-None-find_tables
returns-in-None-find_tables c =
    let K : List Loaded = map kept_as c.args.kept.now in
    let L : List Loaded = map kept_as c.args.loaded.now in
    let m = c.args.«module» in
    let first : tables_of m (K ++ L) ≡ tables_of m L = none_case _ _ _ c.in-None.is (c.find_tables.ensures L) in
    let second : tables_of m (L ++ []) ≡ tables_of m [] = none_case _ _ _ c.in-None-find_tables.is (c.find_tables-in-None.ensures []) in
    let is : tables_of m (K ++ L) ≡ [] = first ∙ (ap (tables_of m) (sym (append-nil L)) ∙ second) in
    sym (ap (λ (z : Tables). c.args.all ++ z) is ∙ append-nil c.args.all)
