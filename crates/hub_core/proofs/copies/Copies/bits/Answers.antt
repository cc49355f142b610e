-- the bits are those of the invalidated keys
use Rattle.std.proofs.Common.{◌^◌, ℕ, ap, ◌∙◌, subst}
use Rattle.hub_model.specs.Record.{bits_of}
use Rattle.hub_core.specs.CopiesView.{CopiesView, AreInvalidated, invalidated_keys}
use Rattle.hub_core.proofs.InvalidationLemmas.{bits-held, bytes-held}
use Rattle.hub_core.proofs.SoundLemmas.{are-invalidated}
use Rattle.hub_core.proofs.copies.Copies.bits.Goals as goal

pub returns-clause-bits : goal.returns-clause-bits
returns-clause-bits c =
    let own = invalidated_keys (record { setting = c.self.inside.config; clock = c.self.inside.issued.clock; copies = c.self.inside.issued.held; outdated = c.self.inside.outdated.held; idle = c.self.inside.issued.idle; ready = c.self.inside.issued.reserved; invalidatable = c.self.inside.outdated.reserved }) in
    c.bits.ensures ∙ bits-held c.self.inside.outdated
    ∙ ap (λ (n : ℕ). bits_of own n c.self.inside.outdated.hashes) c.self.invariant.log2_bits
    ∙ ap (λ (n : ℕ). bits_of own c.self.inside.config.log2_bits n) c.self.invariant.hashes
    ∙ ap (λ (h : CopiesView). bits_of (invalidated_keys h) h.setting.log2_bits h.setting.hashes) c.self.view_is

pub returns-clause-keys : goal.returns-clause-keys
returns-clause-keys c = subst AreInvalidated c.self.view_is (are-invalidated _ c.self.inside.issued c.self.inside.outdated c.self.invariant)

pub returns-clause-len : goal.returns-clause-len
returns-clause-len c =
    bytes-held c.self.inside.outdated c.bits.result.now c.bits.ensures ∙ ap (λ (n : ℕ). 2 ^ n) c.self.invariant.log2_bits
    ∙ ap (λ (h : CopiesView). 2 ^ h.setting.log2_bits) c.self.view_is
