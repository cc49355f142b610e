-- the bytes that were read are those of the disk
use Rattle.std.proofs.Common.{◌≡◌, List, ℕ, eqb, length, Ok, subst, sym, arith}
use Rattle.std.specs.Vec.{with_items}
use Rattle.std.proofs.lemmas.List.{with_items_is}
use Rattle.record_log.specs.Heads.{HasBody}
use Rattle.record_log.proofs.GateLemmas.{body_read}
use Rattle.record_log.proofs.head.read_body.Goals as goal

pub returns-in-Ok-read_at-clause-body : goal.returns-in-Ok-read_at-clause-body
returns-in-Ok-read_at-clause-body g c =
    let whole : length c.read_at.new.into ≡ c.resize.new.self.len = omega (arith, c.read_at.auto.into, c.deref_mut.ensures.len) in
    let size : length c.read_at.new.into ≡ c.args.size = omega (arith, whole, c.in-Ok.ensures.len) in
    let items : (with_items c.resize.new.self c.read_at.new.into).items ≡ c.read_at.new.into = with_items_is c.resize.new.self c.read_at.new.into whole in
    let P : List ℕ → Type 0 = λ b. HasBody (g.D.Disk.at c.args.disk.now).history c.args.place c.args.size b (Ok (eqb c.in-Ok-read_at.count c.args.size)) in
    subst P (sym items) (body_read (g.D.Disk.at c.args.disk.now).history c.args.place c.args.size c.in-Ok-read_at.count c.read_at.new.into size c.in-Ok-read_at.ensures.0)
