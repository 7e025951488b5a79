use denote.Exit.{yes}
use denote.Param.Send.{arg_send, arg_sync, param_send, param_sync}
use Rattle.outside.specs.contracts.sure_library.SureLibrary as library_row
use Rattle.outside.specs.contracts.sure_library.SureLibraryLibrary.TheImpl as library
use Rattle.outside.proofs.sure_library.SureLibrary.TheSendSync as sure
use Rattle.batch_gconv.proofs.Crosses.{caller_send, many_sync}
use Rattle.batch_whole.proofs.program.run.Goals as goal

pub run_words_with_workers-requires-send-S-Caller : goal.run_words_with_workers-requires-send-S-Caller
run_words_with_workers-requires-send-S-Caller g c κs within = param_send 10 _ (arg_send _ yes _ (caller_send _ g.L.Library c.type_bounds.send-L))

pub run_words_with_workers-requires-send-N-Caller : goal.run_words_with_workers-requires-send-N-Caller
run_words_with_workers-requires-send-N-Caller g c κs within = param_send 12 _ (arg_send _ yes _ (caller_send library_row.the_row library.ghosts sure.the_send))

pub run_words_with_workers-requires-sync-S : goal.run_words_with_workers-requires-sync-S
run_words_with_workers-requires-sync-S g c κs within = param_sync 3 _ (arg_sync _ yes _ (many_sync _ g.L.Library c.type_bounds.send-L))

pub run_words_with_workers-requires-sync-N : goal.run_words_with_workers-requires-sync-N
run_words_with_workers-requires-sync-N g c κs within = param_sync 4 _ (arg_sync _ yes _ (many_sync library_row.the_row library.ghosts sure.the_send))
