use Rattle.std.proofs.Common.{◌≡◌, ◌++◌, ◌+◌, ◌-◌, ◌*◌, ◌/◌, ◌%◌, ◌^◌, List, ℕ, length, take, drop, replicate, ap, sym, ◌∙◌, arith, length-drop}
use Rattle.std.proofs.lemmas.List.{length-take}
use Rattle.flat_snapshot.specs.PageText.{head_text}
use Rattle.flat_snapshot.proofs.WriteLemmas.{length-head_text, written_behind, bytes_of-blank, size_shifted}
use Rattle.flat_snapshot.proofs.write.write_head.Goals as goal

-- the zeros are after the head
pub returns-clause-written : goal.returns-clause-written
returns-clause-written c =
    let head = head_text c.args.log2_bits c.args.hashes c.args.front c.args.commits c.args.moment in
    let shifted = size_shifted c.args.log2_bits c.requires.most in
    let same = c.write_fields.auto.buffer in
    let k : ℕ = 1 * 2 ^ c.args.log2_bits % 2 ^ 64 / 8 in
    let size : 1 * 2 ^ c.args.log2_bits % 2 ^ 64 / 8 ≡ 2 ^ c.args.log2_bits / 8 = ap (λ n. n / 8) shifted in
    let cut = length-take (30 + 1 * 2 ^ c.args.log2_bits % 2 ^ 64 / 8 - 30) (drop 30 c.write_fields.new.buffer) in
    let rest = length-drop 30 c.write_fields.new.buffer in
    let long : length (take (30 + 1 * 2 ^ c.args.log2_bits % 2 ^ 64 / 8 - 30) (drop 30 c.write_fields.new.buffer)) ≡ 2 ^ c.args.log2_bits / 8 =
    omega (arith, cut, rest, same, size, c.requires.buffer) in
    let zeros = c.fill.ensures.after (λ y e. e) ∙ ap (λ n. replicate n 0) long in
    written_behind head c.args.buffer.now _ _ _ (1 * 2 ^ c.args.log2_bits % 2 ^ 64 / 8) (length-head_text _ _ _ _ _) c.write_fields.ensures zeros
    ∙ ap (λ (xs : List ℕ). head ++ xs ++ drop (30 + 1 * 2 ^ c.args.log2_bits % 2 ^ 64 / 8) c.args.buffer.now) (sym (bytes_of-blank c.args.log2_bits c.requires.least))
