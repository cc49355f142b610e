-- a hit is what the cache holds; else the store is asked, with the tag of what is held
use Rattle.std.proofs.Common.{ℕ, None, Some, sym, ap, ◌∙◌}
use Rattle.cache_model.specs.Cache.{answer_of, looked_up}
use Rattle.world_core.proofs.StoreLemmas.{same_store}
use Rattle.world_core.proofs.ThroughLemmas.{found_by, hit_read, hit_some, miss_none, miss_read, miss_some, validate_none, validate_read, validate_some}
use Rattle.world_core.proofs.link.looked_through.Goals as goal

pub returns-in-Hit-clause-ok : goal.returns-in-Hit-clause-ok
returns-in-Hit-clause-ok c =
    let s = c.args.store.now in
    let told = looked_up c.args.cache.now s.moment c.args.key.now c.args.no_cache in
    hit_read told s c.args.cache.now c.touch.new.self c.args.key.now c.held.result
    (sym (c.in-Hit.ensures.answer ∙ ap (λ (m : ℕ). answer_of (looked_up c.args.cache.now m c.args.key.now c.args.no_cache)) c.moment.ensures))
    c.touch.ensures.order c.touch.ensures.held (λ held e. found_by c.args.cache.now s.moment c.args.key.now c.args.no_cache held e) c.held.ensures

pub returns-in-Hit-clause-some : goal.returns-in-Hit-clause-some
returns-in-Hit-clause-some c =
    let s = c.args.store.now in
    hit_some (looked_up c.args.cache.now s.moment c.args.key.now c.args.no_cache) s c.args.cache.now c.touch.new.self c.args.key.now
    (sym (c.in-Hit.ensures.answer ∙ ap (λ (m : ℕ). answer_of (looked_up c.args.cache.now m c.args.key.now c.args.no_cache)) c.moment.ensures)) c.touch.ensures.order

pub returns-in-Hit-clause-grown : goal.returns-in-Hit-clause-grown
returns-in-Hit-clause-grown c = same_store c.args.store.now

pub returns-in_err-reply-in-Validate-clause-some : goal.returns-in_err-reply-in-Validate-clause-some
returns-in_err-reply-in-Validate-clause-some c =
    let s = c.args.store.now in
    validate_none (looked_up c.args.cache.now s.moment c.args.key.now c.args.no_cache) c.in-Validate.tag s c.read.new.self c.args.cache.now c.touch.new.self c.args.key.now
    (sym (c.in-Validate.ensures.answer ∙ ap (λ (m : ℕ). answer_of (looked_up c.args.cache.now m c.args.key.now c.args.no_cache)) c.moment.ensures)) c.touch.ensures.order

pub returns-in_err-reply-in-Validate-clause-grown : goal.returns-in_err-reply-in-Validate-clause-grown
returns-in_err-reply-in-Validate-clause-grown c = c.read.ensures.grown

pub returns-in_ok-reply-in-Validate-clause-ok : goal.returns-in_ok-reply-in-Validate-clause-ok
returns-in_ok-reply-in-Validate-clause-ok c =
    let s = c.args.store.now in
    validate_read (looked_up c.args.cache.now s.moment c.args.key.now c.args.no_cache) c.in-Validate.tag s c.read.new.self c.args.cache.now c.touch.new.self c.settle.new.cache c.args.key.now
    c.in_ok-reply-in-Validate.reply c.settle.result
    (sym (c.in-Validate.ensures.answer ∙ ap (λ (m : ℕ). answer_of (looked_up c.args.cache.now m c.args.key.now c.args.no_cache)) c.moment.ensures))
    c.in_ok-reply-in-Validate.ensures.ok c.in_ok-reply-in-Validate.ensures.told c.touch.ensures.order c.settle.ensures.ok

pub returns-in_ok-reply-in-Validate-clause-some : goal.returns-in_ok-reply-in-Validate-clause-some
returns-in_ok-reply-in-Validate-clause-some c =
    let s = c.args.store.now in
    validate_some (looked_up c.args.cache.now s.moment c.args.key.now c.args.no_cache) c.in-Validate.tag s c.read.new.self c.args.cache.now c.touch.new.self c.settle.new.cache c.args.key.now
    c.in_ok-reply-in-Validate.reply
    (sym (c.in-Validate.ensures.answer ∙ ap (λ (m : ℕ). answer_of (looked_up c.args.cache.now m c.args.key.now c.args.no_cache)) c.moment.ensures))
    c.in_ok-reply-in-Validate.ensures.ok c.in_ok-reply-in-Validate.ensures.told c.touch.ensures.order c.settle.ensures.cache

pub returns-in_ok-reply-in-Validate-clause-grown : goal.returns-in_ok-reply-in-Validate-clause-grown
returns-in_ok-reply-in-Validate-clause-grown c = c.read.ensures.grown

pub returns-in_err-reply-in-Miss-clause-some : goal.returns-in_err-reply-in-Miss-clause-some
returns-in_err-reply-in-Miss-clause-some c =
    let s = c.args.store.now in
    miss_none (looked_up c.args.cache.now s.moment c.args.key.now c.args.no_cache) s c.read-in-Miss.new.self c.args.cache.now c.touch.new.self c.args.key.now
    (sym (c.in-Miss.ensures.answer ∙ ap (λ (m : ℕ). answer_of (looked_up c.args.cache.now m c.args.key.now c.args.no_cache)) c.moment.ensures)) c.touch.ensures.order

pub returns-in_err-reply-in-Miss-clause-grown : goal.returns-in_err-reply-in-Miss-clause-grown
returns-in_err-reply-in-Miss-clause-grown c = c.read-in-Miss.ensures.grown

pub returns-in_ok-reply-in-Miss-clause-ok : goal.returns-in_ok-reply-in-Miss-clause-ok
returns-in_ok-reply-in-Miss-clause-ok c =
    let s = c.args.store.now in
    miss_read (looked_up c.args.cache.now s.moment c.args.key.now c.args.no_cache) s c.read-in-Miss.new.self c.args.cache.now c.touch.new.self c.settle-in-Miss.new.cache c.args.key.now
    c.in_ok-reply-in-Miss.reply c.settle-in-Miss.result
    (sym (c.in-Miss.ensures.answer ∙ ap (λ (m : ℕ). answer_of (looked_up c.args.cache.now m c.args.key.now c.args.no_cache)) c.moment.ensures))
    c.in_ok-reply-in-Miss.ensures.ok c.in_ok-reply-in-Miss.ensures.told c.touch.ensures.order c.settle-in-Miss.ensures.ok

pub returns-in_ok-reply-in-Miss-clause-some : goal.returns-in_ok-reply-in-Miss-clause-some
returns-in_ok-reply-in-Miss-clause-some c =
    let s = c.args.store.now in
    miss_some (looked_up c.args.cache.now s.moment c.args.key.now c.args.no_cache) s c.read-in-Miss.new.self c.args.cache.now c.touch.new.self c.settle-in-Miss.new.cache c.args.key.now
    c.in_ok-reply-in-Miss.reply
    (sym (c.in-Miss.ensures.answer ∙ ap (λ (m : ℕ). answer_of (looked_up c.args.cache.now m c.args.key.now c.args.no_cache)) c.moment.ensures))
    c.in_ok-reply-in-Miss.ensures.ok c.in_ok-reply-in-Miss.ensures.told c.touch.ensures.order c.settle-in-Miss.ensures.cache

pub returns-in_ok-reply-in-Miss-clause-grown : goal.returns-in_ok-reply-in-Miss-clause-grown
returns-in_ok-reply-in-Miss-clause-grown c = c.read-in-Miss.ensures.grown
