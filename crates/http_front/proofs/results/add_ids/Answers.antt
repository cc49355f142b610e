-- One more is added, and those behind it are left.
use Rattle.std.proofs.Common.{◌+◌, ◌++◌, take, drop, codes, refl, sym, ap, ◌∙◌, arith}
use Rattle.std.proofs.lemmas.Result.{err_from_is_err_and}
use Rattle.std.specs.List.{flat_map}
use Rattle.result_kinds.specs.Results.{id_text, ids_text}
use Rattle.http_front.proofs.BufferLemmas.{begins, goes_on, fails, adds_last}
use Rattle.http_front.proofs.ResultLemmas.{id_behind, list_end, list_left, list_pieces}
use Rattle.http_front.proofs.results.add_ids.Goals as goal

pub returns-in_err-end : goal.returns-in_err-end
returns-in_err-end g c =
    let p = err_from_is_err_and c.from_residual.result c.from_residual.ensures.1 in
    rw p.1
    (fails _ _ _ _ _ (codes "[\"" ++ (c.in-Some.first.now ++ codes "\"")) (flat_map (λ y. codes "," ++ id_text y) c.in-Some.rest.now ++ codes "]")
    (begins _ (take c.args.at c.args.buffer.now) (ids_text c.args.ids.now) _ (ap ids_text c.in-Some.ensures.cases.0 ∙ list_pieces id_text c.in-Some.first.now c.in-Some.rest.now ∙ ap (λ t. t ++ (flat_map (λ y. codes "," ++ id_text y) c.in-Some.rest.now ++ codes "]")) (sym (id_behind (codes "[") c.in-Some.first.now))))
    c.in_err-end.ensures)

pub returns-in_err-end-2 : goal.returns-in_err-end-2
returns-in_err-end-2 g c =
    let p = err_from_is_err_and c.from_residual-in_err-end-2.result c.from_residual-in_err-end-2.ensures.1 in
    let rest = c.in-Some.rest.now in
    let i = c.loop-id.id-index in
    let id = c.id-item.result in
    let left = list_left id_text rest i id (omega arith) c.id-item.is ∙ ap (λ t. t ++ (flat_map (λ y. codes "," ++ id_text y) (drop (i + 1) rest) ++ codes "]")) (sym (id_behind (codes ",") id)) in
    let old = c.loop-id.invariant.buffered in
    rw p.1
    (fails _ _ _ _ _ (codes ",\"" ++ (id ++ codes "\"")) (flat_map (λ y. codes "," ++ id_text y) (drop (i + 1) rest) ++ codes "]") (rw left at old) c.in_err-end-2.ensures)

pub loop-id-init : goal.loop-id-init
loop-id-init g c =
    record {
      within = c.in_ok-end.ensures.0;
      buffered =
          goes_on _ _ _ _ _ (codes "[\"" ++ (c.in-Some.first.now ++ codes "\"")) (flat_map (λ y. codes "," ++ id_text y) c.in-Some.rest.now ++ codes "]") _
          (begins _ (take c.args.at c.args.buffer.now) (ids_text c.args.ids.now) _ (ap ids_text c.in-Some.ensures.cases.0 ∙ list_pieces id_text c.in-Some.first.now c.in-Some.rest.now ∙ ap (λ t. t ++ (flat_map (λ y. codes "," ++ id_text y) c.in-Some.rest.now ++ codes "]")) (sym (id_behind (codes "[") c.in-Some.first.now))))
          c.in_ok-end.ensures.1;
    }

pub loop-id-preserved : goal.loop-id-preserved
loop-id-preserved g c =
    let rest = c.in-Some.rest.now in
    let i = c.loop-id.id-index in
    let id = c.id-item.result in
    let left = list_left id_text rest i id (omega arith) c.id-item.is ∙ ap (λ t. t ++ (flat_map (λ y. codes "," ++ id_text y) (drop (i + 1) rest) ++ codes "]")) (sym (id_behind (codes ",") id)) in
    let old = c.loop-id.invariant.buffered in
    record {
      within = c.in_ok-end-2.ensures.0;
      buffered =
          goes_on _ _ _ _ _ (codes ",\"" ++ (id ++ codes "\"")) (flat_map (λ y. codes "," ++ id_text y) (drop (i + 1) rest) ++ codes "]") _
          (rw left at old) c.in_ok-end-2.ensures.1;
    }

pub returns : goal.returns
returns g c =
    let rest = c.in-Some.rest.now in
    let old = c.loop-id.invariant.buffered in
    adds_last _ _ _ (take c.args.at c.args.buffer.now) (ids_text c.args.ids.now) _ (codes "]") _ _
    (rw (list_end id_text rest c.loop-id.id-index (omega arith)) at old)
    c.add-2.ensures
