-- What of a runtime may cross threads, where its library may.
use denote.RattleType.{RattleType}
use denote.Param.Send.{IsSend, IsSync, recorded_sync, sendable}
use denote.Param.SendFields.{declared_send, declared_sync}
use Rattle.std.proofs.Crossing.{crosses}
use Rattle.outside.specs.declared.libraries.Library.{Ghosts}
use Rattle.runtime_histories.specs.contracts.loads.Load as load
use Rattle.runtime_histories.specs.contracts.loads.Loads as loads
use Rattle.runtime_histories.specs.contracts.entries.Reply as reply
use Rattle.runtime_histories.specs.contracts.entries.Event as event
use Rattle.runtime_histories.specs.contracts.entries.Entry as entry
use Rattle.module_counts.specs.contracts.counts.Counts as counts
use Rattle.runtime_room.specs.contracts.desk.Desk as desk
use Rattle.runtime_room.specs.contracts.desk.Noted as noted
use Rattle.module_graph.proofs.graph.Graph.TheSendSync as graph
use Rattle.names_alias.proofs.aliases.Aliases.TheSendSync as aliases
use Rattle.module_counts.proofs.stock.Stock.TheSendSync as stock
use Rattle.code_table.proofs.layout.Layout.TheSendSync as layout
use Rattle.gconv_runtime.specs.contracts.tokens.Gconv as gconv_row
use Rattle.gconv_runtime.specs.contracts.tokens.Caller as caller_row
use Rattle.runtime_room.specs.contracts.basis.Basis as basis
use Rattle.runtime_room.specs.contracts.story.Room as room_row
use Rattle.history_core.specs.contracts.tokens.Hall as hall_row
use Rattle.history_core.proofs.tokens.Pass.TheSendSync as pass
use Rattle.runtime_room.specs.contracts.story.RoomStory.TheImpl as story
use Rattle.history_core.proofs.tokens.Hall.TheSendSync as hall
use Rattle.chain_search.proofs.chain.Ordinals.TheSendSync as ordinals
use Rattle.runtime_histories.proofs.refusals.Refusal.TheSendSync as refusal
use Rattle.runtime_histories.proofs.refusals.Asked.TheSendSync as asked
use Rattle.derivation_cache.proofs.Crosses.{cache_field_send, view_field_send, told_field_send}
use Rattle.outside.specs.contracts.shelf_library.ShelfLibrary as shelf_row
use Rattle.outside.specs.contracts.shelf_library.ShelfLibraryLibrary.TheImpl as shelf_ghosts
use Rattle.outside.proofs.shelf_library.ShelfLibrary.TheSendSync as shelf

load_send : IsSend load.the_row
load_send = search (sendable, crosses) depth 20

loads_field_send : IsSend loads.the_field.row
loads_field_send = search (sendable, crosses, load_send) depth 20

reply_field_send : IsSend reply.the_field.row
reply_field_send = search (sendable, crosses, loads_field_send, ordinals.the_send, refusal.the_field_send) depth 20

event_field_send : IsSend event.the_field.row
event_field_send = search (sendable, crosses, reply_field_send, asked.the_field_send) depth 20

entry_send : IsSend entry.the_row
entry_send = search (sendable, crosses, event_field_send) depth 20

counts_send : IsSend counts.the_row
counts_send = search (sendable, crosses, entry_send, stock.the_field_send) depth 20

noted_send : IsSend noted.the_row
noted_send = search (sendable, crosses) depth 20

desk_send : (R : RattleType) → IsSend R → IsSend (desk.the_row R)
desk_send R s = declared_send (desk.the_type R) (
  search (sendable, crosses, counts_send) depth 20,
  (
    search (sendable, crosses, graph.the_send) depth 20,
    (
      search (sendable, crosses) depth 20,
      (
        search (sendable, s) depth 20,
        (search (sendable, crosses) depth 20, (search (sendable, crosses, layout.the_send) depth 20, (search (sendable, crosses, cache_field_send) depth 20, (search (sendable, crosses) depth 20, tt)))),
      ),
    ),
  ),
)

caller_send : (R : RattleType) (d : Ghosts R.Denot) → IsSend R
    → IsSend (caller_row.the_row R (desk.the_row R) noted.the_row (basis.the_row R d) (story.ghosts R d story.no_dict))
caller_send R d s =
    let p = pass.the_field_send (room_row.the_row R) (desk.the_row R) noted.the_row (basis.the_row R d) (story.ghosts R d story.no_dict) (desk_send R s) noted_send in
    declared_send (caller_row.the_type R (desk.the_row R) noted.the_row (basis.the_row R d) (story.ghosts R d story.no_dict))
    (search (sendable, crosses, p) depth 20, (view_field_send, (told_field_send, (search (sendable, crosses) depth 20, tt))))

hall_sync : (R : RattleType) (d : Ghosts R.Denot) → IsSend R → IsSync (hall_row.the_field (room_row.the_row R) (desk.the_row R) noted.the_row (basis.the_row R d) (story.ghosts R d story.no_dict)).row
hall_sync R d s = hall.the_field_sync (room_row.the_row R) (desk.the_row R) noted.the_row (basis.the_row R d) (story.ghosts R d story.no_dict) (desk_send R s) noted_send

-- The runtime over a library in memory may be shared.
pub shelf_sync : IsSync (gconv_row.the_row shelf_row.the_row shelf_ghosts.ghosts)
shelf_sync = let r = hall_sync shelf_row.the_row shelf_ghosts.ghosts shelf.the_send in declared_sync (gconv_row.the_type shelf_row.the_row shelf_ghosts.ghosts) (search (sendable, recorded_sync, r) depth 20, (search (sendable, recorded_sync, aliases.the_sync) depth 20, tt))

-- Its callers may be sent.
abbrev pub shelf_caller : RattleType
shelf_caller = caller_row.the_row shelf_row.the_row (desk.the_row shelf_row.the_row) noted.the_row (basis.the_row shelf_row.the_row shelf_ghosts.ghosts) (story.ghosts shelf_row.the_row shelf_ghosts.ghosts story.no_dict)

pub shelf_caller_send : IsSend shelf_caller
shelf_caller_send = caller_send shelf_row.the_row shelf_ghosts.ghosts shelf.the_send
