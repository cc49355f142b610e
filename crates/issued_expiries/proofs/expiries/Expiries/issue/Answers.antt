use Rattle.std.proofs.Common.{◌≡◌, ◌⊎◌, ◌<◌, length, is_some, ◌&&◌, not, ltb, true, sym, ap, subst, arith}
use Rattle.std.specs.List.{list_any}
use Rattle.std.proofs.lemmas.Bool.{lt-ltb, le-ltb}
use Rattle.query_normal.specs.Keys.{same_key}
use Rattle.query_normal.specs.declared.key.KeyShape.{KeyShape}
use Rattle.issued_expiries.specs.Copies.{SameCopies, is_active, active_keys, with_copy}
use Rattle.issued_expiries.specs.Entries.{copies_in, held_of, kept_of}
use Rattle.issued_expiries.specs.Expiries.{Issued, is_reserved, is_idle}
use Rattle.issued_expiries.proofs.HeldLemmas.{HeldKeys}
use Rattle.issued_expiries.proofs.IssueLemmas.{put_held, sound_put, sound_released, len_after, idle_left, idle_kept}
use Rattle.issued_expiries.proofs.expiries.Expiries.issue.Goals as goal

pub put-requires-clause-reserved : goal.put-requires-clause-reserved
put-requires-clause-reserved c = subst (λ (i : Issued). is_reserved i c.args.key.now ≡ true) (sym c.self.view_is) c.requires.reserved

pub put-requires-clause-space : goal.put-requires-clause-space
put-requires-clause-space c =
    let there = subst (λ (i : Issued). is_reserved i c.args.key.now ≡ true) (sym c.self.view_is) c.requires.reserved in
    c.self.invariant.sound.space c.args.key.now there

-- an expired copy is not held
pub invariant_of-self : goal.invariant_of-self
invariant_of-self c =
    let same = ap (λ (es : HeldKeys). length es) c.release.ensures.entries in
    record {
      capped = c.self.invariant.capped;
      sound = sound_released _ _ _ _ _ _ c.args.key.now c.release.ensures.entries c.release.ensures.reserved c.self.invariant.sound;
      idle_space = omega (arith, same, c.release.ensures.len, c.self.invariant.idle_space);
    }

pub invariant_of-self-2 : goal.invariant_of-self-2
invariant_of-self-2 c =
    let few = subst (λ (i : Issued). (is_active i.held c.args.key.now ≡ true) ⊎ (active_keys i.held < 1000000)) (sym c.self.view_is) c.requires.few in
    let more = len_after (is_some (kept_of c.args.key.now (copies_in c.self.inside.held.entries))) (length c.self.inside.held.entries) (length c.put.new.held.entries) c.put.ensures.len in
    record {
      capped = c.self.invariant.capped;
      sound =
          sound_put _ _ _ c.args.key.now c.args.commit c.args.until c.if-until-self.false c.put.ensures.puts _ _ _ _ c.self.invariant.sound c.put.ensures.reserved c.leave_out.ensures.left
          c.put.ensures.distinct c.put.ensures.tied c.put.ensures.len few;
      idle_space = omega (arith, more, c.put.ensures.used, c.self.invariant.idle_space, c.leave_out.ensures.spare);
    }

pub returns-clause-held : goal.returns-clause-held
returns-clause-held c =
    subst (λ (i : Issued). SameCopies (held_of c.self.inside.clock (copies_in c.put.new.held.entries)) (with_copy i.clock (c.args.key.now, c.args.commit, c.args.until) i.held)) c.self.view_is
    (put_held c.self.inside.clock c.self.inside.held.entries c.put.new.held.entries c.args.key.now c.args.commit c.args.until c.if-until-self.false c.put.ensures.puts c.self.invariant.sound.distinct c.put.ensures.distinct)

pub returns-clause-idle : goal.returns-clause-idle
returns-clause-idle c =
    subst (λ (i : Issued). (other : KeyShape) → list_any (same_key other) c.leave_out.new.keys.keys ≡ (not (same_key c.args.key.now other && ltb i.clock c.args.until) && is_idle i other)) c.self.view_is
    (λ other. idle_left (same_key c.args.key.now other) (ltb c.self.inside.clock c.args.until) (list_any (same_key other) c.self.inside.idle.keys) (list_any (same_key other) c.leave_out.new.keys.keys)
    (c.leave_out.ensures.left other) (lt-ltb c.self.inside.clock c.args.until c.if-until-self.false))

pub returns-then-until-self-clause-idle : goal.returns-then-until-self-clause-idle
returns-then-until-self-clause-idle c =
    subst (λ (i : Issued). (other : KeyShape) → list_any (same_key other) c.self.inside.idle.keys ≡ (not (same_key c.args.key.now other && ltb i.clock c.args.until) && is_idle i other)) c.self.view_is
    (λ other. idle_kept (same_key c.args.key.now other) (ltb c.self.inside.clock c.args.until) (list_any (same_key other) c.self.inside.idle.keys) (le-ltb c.self.inside.clock c.args.until c.if-until-self.true))
