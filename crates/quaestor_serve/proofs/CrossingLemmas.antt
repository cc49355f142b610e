-- What may cross threads: a hub as the value of a turnstile, and so the turnstile, its seats, and all that a thread of a server gets and leaves. A document and a table of routes hold themselves by their children, so what has one in it wants a step of its own.
use mathlib.Core.List.{[], ◌∷◌}
use Prim.Native.Nat.{ℕ}
use mir.Syntax.{Sym, w32, of_param}
use denote.Exit.{Kept, no, if_kept, unseen}
use denote.RattleType.{RattleType}
use denote.Plain.{UInt}
use denote.Param.Send.{IsSend, IsSync, Quiet, Quiet-if, sendable}
use denote.Param.SendFields.{as_row_send, declared_send, declared_sync}
use denote.Struct.Field.{row_field}
use denote.Struct.Tuple.{TupleAt}
use Rattle.std.proofs.Crossing.{crosses}
use Rattle.std.proofs.MapsCrossing as maps
use Rattle.std.specs.contracts.alloc.Global as Global
use Rattle.std.specs.contracts.impls.GlobalAllocator.TheImpl as TheGlobal
use Rattle.std.specs.contracts.option.Option as Option
use Rattle.std.specs.contracts.sync.Arc as Arc
use Rattle.indexmap.proofs.map.IndexMap.TheSendSync as TheMap
use Rattle.indexmap.proofs.set.IndexSet.TheSendSync as TheSet
use Rattle.slab.proofs.Slab.TheSendSync as TheSlab
use Rattle.matchit.proofs.route.Route.TheSendSync as TheRoute
use Rattle.matchit.proofs.tree.Node.TheLaws.TheKnot as TheTree
use Rattle.matchit.specs.contracts.router.Router as Router
use Rattle.matchit.specs.contracts.tree.Node as Tree
use Rattle.atomic_table.proofs.owned.Table.TheSendSync as TheTable
use Rattle.atomic_table.proofs.send_lease.SendLease.TheSendSync as TheLease
use Rattle.atomic_table.proofs.shared.Seat.TheSendSync as TheSeat
use Rattle.atomic_table.proofs.shared.Shared.TheSendSync as TheShared
use Rattle.atomic_table.specs.contracts.shared.Seat as Seat
use Rattle.q_base.proofs.name.Name.TheSendSync as TheName
use Rattle.q_base.proofs.shared_text.SharedText.TheSendSync as TheText
use Rattle.q_doc.proofs.node.Node.TheLaws.TheKnot as TheDocument
use Rattle.q_doc.proofs.path.Path.TheSendSync as ThePath
use Rattle.q_doc.specs.contracts.doc.Doc as Doc
use Rattle.q_doc.specs.contracts.node.Node as Node
use Rattle.q_outside.proofs.served.Served.TheSendSync as TheServed
use Rattle.query_core.proofs.filter.Filter.TheLaws.TheKnot as TheFilter
use Rattle.query_core.proofs.operator.Op.TheSendSync as TheOp
use Rattle.query_core.specs.contracts.filter.Filter as Filter
use Rattle.query_core.proofs.query.Order.TheSendSync as TheOrder
use Rattle.query_core.specs.contracts.query.Query as Query
use Rattle.query_normal.proofs.text.KeyText.TheSendSync as TheKeyText
use Rattle.query_normal.specs.contracts.key.Key as Key
use Rattle.query_normal.specs.contracts.key.KeyShape as KeyShape
use Rattle.query_normal.specs.contracts.key.Key.TheInside as KeyInside
use Rattle.query_normal.specs.contracts.key.Shared as KeyContent
use Rattle.query_normal.specs.contracts.key.Shared.TheInside as KeyContentInside
use Rattle.query_normal.specs.contracts.normal_query.Normal as Normal
use Rattle.query_normal.specs.contracts.normal_query.Normal.TheInside as NormalInside
use Rattle.expiring_filter.specs.contracts.filter.CountingFilter as CountingFilter
use Rattle.expiring_map.specs.contracts.reserved.ReservedKeys as ReservedKeys
use Rattle.issued_expiries.proofs.key_copies.KeyCopies.TheSendSync as TheKeyCopies
use Rattle.issued_expiries.specs.contracts.expiries.Expiries as Expiries
use Rattle.purge_list.specs.contracts.last_changes.LastChanges as LastChanges
use Rattle.purge_list.specs.contracts.purges.Purges as Purges
use Rattle.ttl_estimator.proofs.estimates.Kept.TheSendSync as TheKept
use Rattle.ttl_estimator.proofs.records.Records.TheSendSync as TheRecords
use Rattle.ttl_estimator.specs.contracts.estimates.Estimates as Estimates
use Rattle.ttl_estimator.specs.contracts.estimator.Estimator as Estimator
use Rattle.http_message.proofs.room.RequestRoom.TheSendSync as TheRequests
use Rattle.http_front.proofs.reply.ReplyRoom.TheSendSync as TheReply
use Rattle.http_front.proofs.routes.Route.TheSendSync as TheTarget
use Rattle.http_front.specs.contracts.routes.Route as Target
use Rattle.http_front.specs.contracts.routes.Routes as Routes
use Rattle.commit_book.proofs.past.Past.TheLaws.TheKnot as ThePast
use Rattle.commit_book.specs.contracts.base.Base as Base
use Rattle.commit_book.specs.contracts.book.Book as Book
use Rattle.commit_book.specs.contracts.index.Record as Record
use Rattle.commit_book.specs.contracts.index.Slot as Slot
use Rattle.commit_book.specs.contracts.past.Past as Past
use Rattle.commit_book.specs.contracts.row.Reserved as Reserved
use Rattle.commit_book.specs.contracts.row.Row as Row
use Rattle.match_sets.specs.contracts.set.MatchSet as MatchSet
use Rattle.match_sets.specs.contracts.set.MatchSet.TheInside as SetInside
use Rattle.match_index.specs.contracts.index.Index as Index
use Rattle.match_index.specs.contracts.index.Index.TheInside as IndexInside
use Rattle.match_index.specs.contracts.places.Places as Places
use Rattle.active_queries.specs.contracts.followers.Followers as Followers
use Rattle.active_queries.specs.contracts.followers.Followers.TheInside as FollowersInside
use Rattle.active_queries.specs.contracts.query.ActiveQuery as ActiveQuery
use Rattle.active_queries.specs.contracts.query.ActiveQuery.TheInside as FollowedInside
use Rattle.active_queries.specs.contracts.queries.ActiveQueries as ActiveQueries
use Rattle.active_queries.specs.contracts.queries.ActiveQueries.TheInside as QueriesInside
use Rattle.hub_core.proofs.page_room.PageRoom.TheSendSync as ThePages
use Rattle.hub_core.specs.contracts.config.Config as Config
use Rattle.hub_core.specs.contracts.copies.Copies as Copies
use Rattle.hub_core.specs.contracts.hub.Hub as Hub
use Rattle.hub_core.specs.contracts.hub.Hub.TheInside as HubInside
use Rattle.hub_core.specs.contracts.lifetimes.Lifetimes as Lifetimes
use Rattle.turnstile.proofs.gate.Turnstile.TheSendSync as TheTurnstile
use Rattle.turnstile.specs.contracts.gate.Turnstile as Turnstile
use Rattle.turnstile.specs.contracts.view.View as View
use Rattle.hub_desk.specs.contracts.hub_value.HubValue as HubValue
use Rattle.hub_desk.specs.contracts.hub_value.HubValueStands.TheImpl as TheStands
use Rattle.hub_desk.specs.contracts.hub_value.Noted as Noted
use Rattle.hub_desk.specs.contracts.trim.Trim as Trim
use Rattle.hub_desk.proofs.trim.Trim.TheSendSync as TheTrim
use Rattle.quaestor_server.specs.contracts.connection.Room as Room
use Rattle.quaestor_serve.specs.contracts.begun.Done as Done
use Rattle.quaestor_serve.specs.contracts.endings.Endings as Endings
use Rattle.quaestor_serve.specs.contracts.matcher.Rested as Rested
use Rattle.quaestor_serve.specs.contracts.pool.Pool as Pool
use Rattle.quaestor_serve.specs.contracts.stop.Stop as Stop

pub doc_send : IsSend Doc.the_row
doc_send = search (TheDocument.crosses, crosses, sendable) depth 60 fits 20000

pub row_send : IsSend Row.the_row
row_send = search (doc_send, TheName.the_send, TheText.the_send, TheDocument.crosses, crosses, sendable) depth 60 fits 20000

-- what stays of a record behind a drop of its rows, and where its next commit goes
pub base_send : IsSend Base.the_row
base_send = search (doc_send, TheText.the_send, TheDocument.crosses, crosses, sendable) depth 60 fits 20000

pub record_send : IsSend Record.the_row
record_send = search (base_send, crosses, sendable) depth 60 fits 20000

pub slot_send : IsSend Slot.the_row
slot_send = search (record_send, TheName.the_send, TheMap.the_send, crosses, sendable) depth 60 fits 20000

pub reserved_send : IsSend Reserved.the_row
reserved_send = declared_send Reserved.the_type (row_send, (slot_send, tt))

-- the changes that were made hold the changes before them
pub past_send : IsSend Past.the_row
past_send = search (ThePast.crosses, crosses, sendable) depth 60 fits 20000

pub book_send : IsSend Book.the_row
book_send = search (row_send, record_send, reserved_send, past_send, TheName.the_send, TheMap.the_send, crosses, sendable) depth 60 fits 20000

-- a query holds a filter, which holds itself
pub filter_row_send : IsSend Filter.the_row
filter_row_send = search (TheFilter.crosses, TheDocument.crosses, ThePath.the_send, TheOp.the_send, crosses, sendable) depth 60 fits 20000

pub node_sync : IsSync Node.the_row
node_sync = search (TheDocument.crosses, crosses, sendable) depth 60 fits 20000

pub filter_row_sync : IsSync Filter.the_row
filter_row_sync = search (TheFilter.crosses, node_sync, ThePath.the_sync, TheOp.the_sync, crosses, sendable) depth 60 fits 20000

pub query_send : IsSend Query.the_row
query_send = search (filter_row_send, TheOrder.the_send, TheName.the_send, crosses, sendable) depth 60 fits 20000

pub query_sync : IsSync Query.the_row
query_sync = search (filter_row_sync, TheOrder.the_sync, TheName.the_sync, crosses, sendable) depth 60 fits 20000

-- its normal form
pub normal_inside_send : IsSend NormalInside.the_row
normal_inside_send = declared_send NormalInside.the_type (query_send, tt)

pub normal_inside_sync : IsSync NormalInside.the_row
normal_inside_sync = declared_sync NormalInside.the_type (query_sync, tt)

pub normal_send : IsSend Normal.the_row
normal_send = search (normal_inside_send, crosses, sendable) depth 60 fits 20000

pub normal_sync : IsSync Normal.the_row
normal_sync = search (normal_inside_sync, crosses, sendable) depth 60 fits 20000

pub shape_send : IsSend KeyShape.the_row
shape_send = search (normal_send, TheName.the_send, crosses, sendable) depth 60 fits 20000

pub shape_sync : IsSync KeyShape.the_row
shape_sync = search (normal_sync, TheName.the_sync, crosses, sendable) depth 60 fits 20000

-- what the clones of a key share, and the key
pub content_inside_send : IsSend KeyContentInside.the_row
content_inside_send = declared_send KeyContentInside.the_type (shape_send, (TheKeyText.the_send, tt))

pub content_inside_sync : IsSync KeyContentInside.the_row
content_inside_sync = declared_sync KeyContentInside.the_type (shape_sync, (TheKeyText.the_sync, tt))

pub content_send : IsSend KeyContent.the_row
content_send = search (content_inside_send, crosses, sendable) depth 60 fits 20000

pub content_sync : IsSync KeyContent.the_row
content_sync = search (content_inside_sync, crosses, sendable) depth 60 fits 20000

pub key_inside_send : IsSend KeyInside.the_row
key_inside_send = search (content_send, content_sync, crosses, sendable) depth 60 fits 20000

pub key_send : IsSend Key.the_row
key_send = search (key_inside_send, crosses, sendable) depth 60 fits 20000

pub keys_send : IsSend ReservedKeys.the_row
keys_send = search (key_send, TheMap.the_send, crosses, sendable) depth 60 fits 20000

pub filter_send : IsSend CountingFilter.the_row
filter_send = search (key_send, keys_send, TheMap.the_send, crosses, sendable) depth 60 fits 20000

pub expiries_send : IsSend Expiries.the_row
expiries_send = search (key_send, keys_send, TheMap.the_send, TheKeyCopies.the_send, crosses, sendable) depth 60 fits 20000

pub copies_send : IsSend Copies.the_row
copies_send = search (filter_send, expiries_send, crosses, sendable) depth 60 fits 20000

-- what the hub keeps of an active query: its match set, whose rows are tuples of a name, a number and a document
pub set_inside_send : IsSend SetInside.the_row
set_inside_send = declared_send SetInside.the_type (query_send, (search (crosses, sendable), (search (doc_send, TheName.the_send, crosses, sendable) depth 60 fits 20000, (search (crosses, sendable), tt))))

pub set_send : IsSend MatchSet.the_row
set_send = search (set_inside_send, crosses, sendable) depth 60 fits 20000

pub followed_inside_send : IsSend FollowedInside.the_row
followed_inside_send = declared_send FollowedInside.the_type (search (crosses, sendable), (set_send, (search (crosses, sendable), (search (crosses, sendable), (search (crosses, sendable), tt)))))

pub followed_send : IsSend ActiveQuery.the_row
followed_send = search (followed_inside_send, crosses, sendable) depth 60 fits 20000

pub followers_inside_send : IsSend FollowersInside.the_row
followers_inside_send = search (key_send, followed_send, TheMap.the_send, TheSet.the_send, crosses, sendable) depth 60 fits 20000

pub followers_send : IsSend Followers.the_row
followers_send = search (followers_inside_send, crosses, sendable) depth 60 fits 20000

-- their keys by what a commit changes: in each collection by a path and a value there
pub node_send : IsSend Node.the_row
node_send = search (TheDocument.crosses, crosses, sendable) depth 60 fits 20000

pub places_send : IsSend Places.the_row
places_send = search (key_send, node_send, ThePath.the_send, TheSet.the_send, maps.crosses, crosses, sendable) depth 60 fits 20000

pub index_inside_send : IsSend IndexInside.the_row
index_inside_send = search (key_send, places_send, TheName.the_send, TheSet.the_send, maps.crosses, crosses, sendable) depth 60 fits 20000

pub index_send : IsSend Index.the_row
index_send = search (index_inside_send, crosses, sendable) depth 60 fits 20000

pub queries_inside_send : IsSend QueriesInside.the_row
queries_inside_send = search (followers_send, index_send, key_send, crosses, sendable) depth 60 fits 20000

pub queries_send : IsSend ActiveQueries.the_row
queries_send = search (queries_inside_send, crosses, sendable) depth 60 fits 20000

-- what it keeps for the lifetimes of replies and for purges
pub estimates_send : IsSend Estimates.the_row
estimates_send = search (key_send, TheKept.the_send, TheMap.the_send, crosses, sendable) depth 60 fits 20000

pub estimator_send : IsSend Estimator.the_row
estimator_send = search (estimates_send, TheRecords.the_send, crosses, sendable) depth 60 fits 20000

pub changes_send : IsSend LastChanges.the_row
changes_send = search (key_send, TheMap.the_send, crosses, sendable) depth 60 fits 20000

pub purges_send : IsSend Purges.the_row
purges_send = search (key_send, crosses, sendable) depth 60 fits 20000

pub lifetimes_send : IsSend Lifetimes.the_row
lifetimes_send = search (estimator_send, changes_send, purges_send, expiries_send, crosses, sendable) depth 60 fits 20000

pub hub_inside_send : IsSend HubInside.the_row
hub_inside_send = declared_send HubInside.the_type (search (crosses, sendable), (book_send, (search (crosses, sendable), (copies_send, (queries_send, (lifetimes_send, tt))))))

pub hub_send : IsSend Hub.the_row
hub_send = search (hub_inside_send, crosses, sendable) depth 60 fits 20000

pub value_send : IsSend HubValue.the_row
value_send = search (hub_send, crosses, sendable) depth 60 fits 20000

-- what crosses on its own, and the value of a turnstile
ruleset crossing = (value_send, TheSeat.the_send, TheTurnstile.the_send, TheTurnstile.the_sync, TheTable.the_send, TheTable.the_sync, TheLease.the_send, TheLease.the_sync, TheShared.the_send, TheShared.the_sync, crosses, sendable)

-- a turnstile of a hub
abbrev TurnstileRow : RattleType
TurnstileRow = Turnstile.the_row HubValue.the_row Noted.the_row Config.the_row TheStands.ghosts

-- a seat at one
abbrev SeatRow : RattleType
SeatRow = Seat.the_row (Option.the_row HubValue.the_row) (View.the_row Noted.the_row Config.the_row)

-- a value with many owners
abbrev SharedRow : RattleType → RattleType
SharedRow T = Arc.the_row T Global.the_row TheGlobal.ghosts

pub seat_send : IsSend SeatRow
seat_send = search crossing depth 60 fits 20000

pub turnstile_send : IsSend TurnstileRow
turnstile_send = search crossing depth 60 fits 20000

pub turnstile_sync : IsSync TurnstileRow
turnstile_sync = search crossing depth 60 fits 20000

pub shared_turnstile_send : IsSend (SharedRow TurnstileRow)
shared_turnstile_send = search (turnstile_send, turnstile_sync, crosses, sendable) depth 60 fits 20000

pub shared_stop_send : IsSend (SharedRow Stop.the_row)
shared_stop_send = search (crosses, sendable) depth 60 fits 20000

pub shared_endings_send : IsSend (SharedRow Endings.the_row)
shared_endings_send = search (crosses, sendable) depth 60 fits 20000

pub tree_send : IsSend Tree.the_row
tree_send = search (TheTree.crosses, crosses, sendable) depth 60 fits 20000

pub router_send : IsSend (Router.the_row Target.the_row)
router_send = search (tree_send, TheSlab.the_send, TheRoute.the_send, TheTarget.the_send, crosses, sendable) depth 60 fits 20000

pub routes_send : IsSend Routes.the_row
routes_send = search (router_send, crosses, sendable) depth 60 fits 20000

pub room_send : IsSend Room.the_row
room_send = search (TheRequests.the_send, routes_send, TheReply.the_send, ThePages.the_send, crosses, sendable) depth 60 fits 20000

pub shared_pool_send : IsSend (SharedRow Pool.the_row)
shared_pool_send = search (room_send, crosses, sendable) depth 60 fits 20000

-- what a matcher leaves, and what a connection leaves
pub rested_send : (C : RattleType) → IsSend C → IsSend (Rested.the_row C)
rested_send C clock = search (seat_send, crosses, sendable) depth 60 fits 20000

pub done_send : (S K : RattleType) → IsSend S → IsSend K → IsSend (Done.the_row S K)
done_send S K source sink = declared_send (Done.the_type S K) (seat_send, (as_row_send (row_field S) source, (as_row_send (row_field K) sink, (TheServed.the_send, tt))))

-- what a matcher's thread gets, and what a connection's thread gets; the name is that of a closure
pub matcher_send : (name : Sym) (R C M : RattleType) → IsSend R → IsSend C → IsSend M → IsSend (TupleAt name (R ∷ SharedRow TurnstileRow ∷ SeatRow ∷ C ∷ Trim.the_row ∷ SharedRow Stop.the_row ∷ M ∷ []))
matcher_send name R C M handle clock monitor = search (shared_turnstile_send, seat_send, TheTrim.the_send, shared_stop_send, crosses, sendable) depth 60 fits 20000

pub connection_send : (name : Sym) (R G H S K C : RattleType) → IsSend R → IsSend G → IsSend H → IsSend S → IsSend K → IsSend C → IsSend (TupleAt name (R ∷ Global.the_row ∷ SharedRow TurnstileRow ∷ SharedRow Endings.the_row ∷ G ∷ UInt w32 ∷ SeatRow ∷ H ∷ S ∷ K ∷ C ∷ SharedRow Pool.the_row ∷ []))
connection_send name R G H S K C handle gate hand source sink clock = search (shared_turnstile_send, shared_endings_send, shared_pool_send, seat_send, crosses, sendable) depth 60 fits 20000

-- what is let go of as a parameter, of a type that may cross threads, leaves nothing that may not
pub leaves : (i : ℕ) (R : RattleType) → IsSend R → (k : Kept) → Quiet (if_kept (k (of_param i)) (R.exit no) unseen)
leaves i R s k = Quiet-if (k (of_param i)) (R.exit no) unseen (s.leaving no) (λ x w. tt)
