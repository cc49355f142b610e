use Rattle.std.proofs.Common.{ℕ, ◌<◌, List, ◌++◌, length, codes, sym, ap, ◌∙◌, arith}
use Rattle.result_kinds.specs.declared.rows.PrintedRow.{PrintedRow}
use Rattle.result_kinds.specs.Results.{object_text}
use Rattle.result_kinds.proofs.SizeLemmas.{texts_more, texts_left, comma_assoc}
use Rattle.result_kinds.proofs.texts.append_each_object.Goals as goal

-- one more object, with its comma
pub loop-row-preserved : goal.loop-row-preserved
loop-row-preserved c =
    let rest = c.in-Some.rest.now in
    let i = c.loop-row.row-index in
    let row = c.row-item.result in
    let text : PrintedRow → List ℕ = λ (y : PrintedRow). codes "," ++ object_text y in
    let within : i < length rest = omega arith in
    let more = texts_more text rest i row within c.row-item.is in
    let left = texts_left text rest i row within c.row-item.is in
    let object = c.append_object-in-loop-row.ensures in
    let loop = c.loop-row.invariant in
    record {
      items = object.items
          ∙ ap (λ t. t ++ object_text row) (c.append.ensures.items ∙ ap (λ t. t ++ codes ",") loop.items)
          ∙ comma_assoc _ _ _
          ∙ ap (λ t. c.append_object.new.buffer.items ++ t) (sym more);
      len = omega (arith, object.len, c.append.ensures.len, loop.len, left);
      room = omega (arith, object.len, object.capacity, c.append.ensures.len, c.append.ensures.capacity, loop.room, left);
      capacity = omega (arith, object.capacity, c.append.ensures.capacity, loop.capacity);
    }
