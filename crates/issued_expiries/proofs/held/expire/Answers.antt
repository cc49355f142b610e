use Rattle.std.proofs.Common.{sym, ◌∙◌, subst, arith}
use Rattle.expiring_map.specs.Map.{Expiring}
use Rattle.issued_expiries.specs.KeyCopies.{KeptCopies}
use Rattle.issued_expiries.specs.Entries.{copies_in, AreUnexpired}
use Rattle.issued_expiries.proofs.HeldLemmas.{ages_then, ages_expired, tied_rest, distinct_shown, fewer, unexpired_all}
use Rattle.issued_expiries.proofs.held.expire.Goals as goal

pub add_idle-requires : goal.add_idle-requires
add_idle-requires c =
    let one = fewer c.in-Some.ensures.some in
    omega (arith, one, c.loop-key.invariant.space)

pub loop-key-smaller : goal.loop-key-smaller
loop-key-smaller c =
    let one = fewer c.in-Some.ensures.some in
    omega (arith, one)

pub loop-key-preserved : goal.loop-key-preserved
loop-key-preserved c =
    let one = fewer c.in-Some.ensures.some in
    record {
      ages = λ asked.
          ages_then c.args.moment _ _ _ _ _ _ (c.loop-key.invariant.ages asked)
          (ages_expired c.in-Some.ensures.some _ _ c.loop-key.invariant.tied c.loop-key.invariant.distinct c.add_idle.ensures.keys asked);
      tied = tied_rest c.in-Some.ensures.some c.loop-key.invariant.tied;
      distinct = distinct_shown _ c.next_expired.ensures.once;
      reserved = c.next_expired.ensures.reserved ∙ c.loop-key.invariant.reserved;
      space = omega (arith, one, c.loop-key.invariant.space, c.add_idle.ensures.spare);
      len = omega (arith, one, c.loop-key.invariant.len);
      idle_spare = omega (arith, one, c.loop-key.invariant.idle_spare, c.add_idle.ensures.spare);
    }

-- no key is left that leaves by then
pub returns-clause-unexpired : goal.returns-clause-unexpired
returns-clause-unexpired c =
    subst (λ (m : Expiring KeptCopies). AreUnexpired c.args.moment (copies_in m.entries)) (sym c.in_default.ensures.same)
    (unexpired_all c.args.moment c.loop-key.held.entries c.loop-key.invariant.tied c.in_default.ensures.none)
