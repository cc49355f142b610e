-- empty caches hold nothing
use Rattle.std.proofs.Common.{◌≡◌, false, List, [], None, sym, ap, ◌∙◌, subst}
use Rattle.query_normal.specs.declared.key.KeyShape.{KeyShape}
use Rattle.hub_model.specs.State.{State}
use Rattle.client_model.specs.declared.reply.Reply.{Reply}
use Rattle.cache_model.specs.Cache.{Held}
use Rattle.client_session.specs.declared.last.LastReplies.{LastReplies}
use Rattle.world_core.specs.Link.{WorldLinkView, AreHeld, HoldsIssued, link_over}
use Rattle.world_core.specs.Store.{StoreView, state_in}
use Rattle.world_core.proofs.link.WorldLink.new.Goals as goal

nothing_held : (s : State) (cache empty : Held) → cache ≡ empty → empty.pairs ≡ [] → HoldsIssued s cache
nothing_held s cache empty e none = subst (λ (ps : List (KeyShape × Reply)). AreHeld s ps) (sym (ap (λ (k : Held). k.pairs) e ∙ none)) tt

start_is : (store : StoreView) (first second a b : Held) (last : LastReplies) → first ≡ a → second ≡ b → last ≡ record { through = None; direct = None; page = None }
    → record { store = store; first = first; second = second; is_second = false; purges = 0; last = last } ≡ link_over store a b
start_is store first second a b last e f g =
    let v : WorldLinkView = record { store = store; first = first; second = second; is_second = false; purges = 0; last = last } in
    ap (λ (k : Held). record v { first = k }) e
    ∙ ap (λ (k : Held). record v { first = a; second = k }) f
    ∙ ap (λ (l : LastReplies). record v { first = a; second = b; last = l }) g

pub invariant_of-result : goal.invariant_of-result
invariant_of-result c = record {
  first = nothing_held (state_in c.args.store) c.into_inner-first.result _ c.into_inner-first.ensures c.requires.first_is_empty;
  second = nothing_held (state_in c.args.store) c.into_inner-second.result _ c.into_inner-second.ensures c.requires.second_is_empty;
}

pub returns : goal.returns
returns c =
    start_is c.args.store c.into_inner-first.result c.into_inner-second.result _ _ c.none.result
    c.into_inner-first.ensures c.into_inner-second.ensures c.none.ensures
