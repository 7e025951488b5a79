-- What of a cache may cross threads. Rattle's own rule stops at the `Snapshot` of a list's graph.
use denote.Param.Send.{IsSend, IsSync, sendable}
use Rattle.std.proofs.Crossing.{crosses}
use Rattle.left_right.proofs.reader.Reader.TheSendSync as reader
use Rattle.left_right.proofs.writer.Writer.TheSendSync as writer
use Rattle.derivation_cache.specs.contracts.told.List as list
use Rattle.derivation_cache.specs.contracts.told.Told as told
use Rattle.derivation_cache.specs.contracts.view.View as view
use Rattle.derivation_cache.specs.contracts.cache.Cache as cache
use Rattle.derivation_cache.specs.contracts.record.Record as entries
use Rattle.derivation_cache.proofs.TreeCrosses.{tree_send, tree_sync}

record_send : IsSend entries.the_field.row
record_send = search (sendable, crosses) depth 20

record_sync : IsSync entries.the_field.row
record_sync = search (sendable, crosses) depth 20

list_send : IsSend list.the_row
list_send = search (sendable, crosses, record_send, tree_send) depth 20

list_sync : IsSync list.the_row
list_sync = search (sendable, crosses, record_sync, tree_sync) depth 20

pub told_send : IsSend told.the_row
told_send = search (sendable, crosses, list_send, list_sync) depth 20

pub told_sync : IsSync told.the_row
told_sync = search (sendable, crosses, list_send, list_sync) depth 20

pub view_send : IsSend view.the_row
view_send = search (sendable, crosses, told_send, told_sync, reader.the_send) depth 20

pub told_field_send : IsSend told.the_field.row
told_field_send = search (sendable, crosses, list_send, list_sync) depth 20

pub told_field_sync : IsSync told.the_field.row
told_field_sync = search (sendable, crosses, list_send, list_sync) depth 20

pub cache_send : IsSend cache.the_row
cache_send = search (sendable, crosses, told_send, told_sync, writer.the_field_send) depth 20

-- The same where they are parts of another struct.
pub view_field_send : IsSend view.the_field.row
view_field_send = search (sendable, crosses, told_field_send, told_field_sync, reader.the_field_send) depth 20

pub cache_field_send : IsSend cache.the_field.row
cache_field_send = search (sendable, crosses, told_send, told_sync, writer.the_field_send) depth 20
