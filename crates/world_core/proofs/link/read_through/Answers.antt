-- what the store and the cache came to is of what was issued
use Rattle.std.proofs.lemmas.Result.{IfOk-weaker}
use Rattle.cache_model.specs.Cache.{looked_up}
use Rattle.world_core.specs.Store.{state_in}
use Rattle.world_core.proofs.LinkLemmas.{later_in}
use Rattle.world_core.proofs.ThroughLemmas.{found_by, some_read_holds, through_held}
use Rattle.world_core.proofs.link.read_through.Goals as goal

pub returns-clause-holds : goal.returns-clause-holds
returns-clause-holds c = λ h.
    let s = c.args.store.now in
    let t = c.looked_through.new.store in
    some_read_holds (λ key journal horizon at tags tag. (c.the_greatest_same_result_is_told.ensures.told key journal horizon at tags tag).0) c.more_entries.ensures.state c.result_of_prefix.ensures
    (looked_up c.args.cache.now s.moment c.args.key.now c.args.no_cache) s t c.args.cache.now c.looked_through.new.cache c.args.key.now
    (later_in c.longer_histories_are_later.ensures s t c.looked_through.ensures.grown c.legal.ensures) h c.looked_through.ensures.some

pub returns-clause-told : goal.returns-clause-told
returns-clause-told c = λ h.
    let s = c.args.store.now in
    let t = c.looked_through.new.store in
    let told = looked_up c.args.cache.now s.moment c.args.key.now c.args.no_cache in
    let now =
    some_read_holds (λ key journal horizon at tags tag. (c.the_greatest_same_result_is_told.ensures.told key journal horizon at tags tag).0) c.more_entries.ensures.state c.result_of_prefix.ensures
    told s t c.args.cache.now c.looked_through.new.cache c.args.key.now
    (later_in c.longer_histories_are_later.ensures s t c.looked_through.ensures.grown c.legal.ensures) h c.looked_through.ensures.some in
    IfOk-weaker c.looked_through.result _ _
    (λ reply is. through_held (λ key journal horizon at tags tag. (c.the_greatest_same_result_is_told.ensures.told key journal horizon at tags tag).0) c.more_entries.ensures.state
    told s t c.args.cache.now c.looked_through.new.cache c.args.key.now reply (λ held e. found_by c.args.cache.now s.moment c.args.key.now c.args.no_cache held e) h now is)
    c.looked_through.ensures.ok
