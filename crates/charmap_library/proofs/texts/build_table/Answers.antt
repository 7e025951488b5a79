use Rattle.charmap_library.proofs.texts.build_table.Goals as goal

pub returns-clause-err : goal.returns-clause-err
returns-clause-err c = c.table_fault.ensures c.args.text.now c.in-Ok.map.pairs.items c.in-Ok.ensures.ok c.in-Err-build.ensures.refused
