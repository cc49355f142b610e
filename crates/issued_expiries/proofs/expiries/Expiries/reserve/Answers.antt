use Rattle.std.proofs.Common.{List, length, sym, ap, ◌∙◌, arith, refl}
use Rattle.query_normal.specs.declared.key.KeyShape.{KeyShape}
use Rattle.issued_expiries.proofs.HeldLemmas.{HeldKeys}
use Rattle.issued_expiries.proofs.IssueLemmas.{sound_cut, sound_reserved}
use Rattle.issued_expiries.proofs.expiries.Expiries.reserve.Goals as goal

pub invariant_of-self : goal.invariant_of-self
invariant_of-self c =
    let same = ap (λ (ks : List KeyShape). length ks) c.make_space.ensures.reserved in
    record {
      capped = c.self.invariant.capped;
      sound =
          sound_cut _ c.self.invariant.sound c.make_space.ensures.trims c.make_space.ensures.tied (sym c.reserves.ensures ∙ c.if-reserves.false) c.make_space.ensures.reserved refl;
      idle_space = omega (arith, same, c.self.invariant.idle_space, c.make_space.ensures.len);
    }

pub invariant_of-self-in_err-reserve_idle : goal.invariant_of-self-in_err-reserve_idle
invariant_of-self-in_err-reserve_idle c =
    let same = ap (λ (ks : List KeyShape). length ks) c.make_space.ensures.reserved in
    record {
      capped = c.self.invariant.capped;
      sound =
          sound_cut _ c.self.invariant.sound c.make_space.ensures.trims c.make_space.ensures.tied (sym c.reserves.ensures ∙ c.if-reserves.false) c.make_space.ensures.reserved
          c.reserve_idle.ensures.keys;
      idle_space = omega (arith, same, c.self.invariant.idle_space, c.make_space.ensures.len, c.reserve_idle.ensures.spare);
    }

-- the key has space, and so has each key that was reserved before
pub invariant_of-self-2 : goal.invariant_of-self-2
invariant_of-self-2 c =
    let size = ap (λ (es : HeldKeys). length es) c.reserve.ensures.entries in
    record {
      capped = c.self.invariant.capped;
      sound =
          sound_reserved _ c.self.invariant.sound c.make_space.ensures.trims c.make_space.ensures.tied (sym c.reserves.ensures ∙ c.if-reserves.false) c.make_space.ensures.reserved
          c.reserve_idle.ensures.keys c.in_ok-make_space.ensures.space c.reserve.ensures.others c.reserve.ensures.entries;
      idle_space = omega (arith, size, c.reserve.ensures.len, c.len.ensures.len, c.reserved.ensures.len, c.in_ok-reserve_idle.ensures.space);
    }
