-- An object of whole numbers that is not too deep is judged a document.
use Rattle.std.proofs.Common.{◌≡◌, ◌≤◌, ℕ, List, true, length, Some, Ok, refl, ap, ◌∙◌, arith}
use Rattle.std.specs.Prelude.{unwrap_or, is_some}
use Rattle.serde_json.specs.Data as json
use Rattle.serde_json.specs.Find.{as_i64, as_object}
use Rattle.q_doc.specs.Tree.{Tree, number, array, is_object, depth}
use Rattle.q_doc.specs.Document.{IsPlainDocument}
use Rattle.q_doc.specs.Found.{whole, whole_items}
use Rattle.q_doc.specs.Judged.{judged, judged_data}
use Rattle.q_doc.specs.Reading.{HoldsWhole}
use Rattle.q_doc.specs.Limits.{longest_document, deepest_document}
use Rattle.q_doc.proofs.ReadData.{of_option_map, found-IsRead}
use Rattle.q_doc.proofs.ReadsBack.{not_above}
use Rattle.q_doc.proofs.WholeLemmas.{depth_whole, document_whole}

judged_whole : (d : json.Data) (t : Tree) → whole d ≡ Some t → is_object t ≡ true → depth t ≤ deepest_document → judged_data d ≡ Ok t
judged_whole json.null t e h shallow = let never = ap (λ o. is_object (unwrap_or o t)) e ∙ h in absurd (cc)
judged_whole (json.boolean b) t e h shallow = let never = ap (λ o. is_object (unwrap_or o t)) e ∙ h in absurd (cc)
judged_whole (json.number n) t e h shallow = let z = of_option_map number (as_i64 n) t e in let never = ap is_object z.2 ∙ h in absurd (cc)
judged_whole (json.string s) t e h shallow = let never = ap (λ o. is_object (unwrap_or o t)) e ∙ h in absurd (cc)
judged_whole (json.array ds) t e h shallow = let ts = of_option_map array (whole_items ds) t e in let never = ap is_object ts.2 ∙ h in absurd (cc)
judged_whole (json.object ms) t e h shallow = rw (not_above deepest_document (json.depth (json.object ms)) (omega (arith, depth_whole (json.object ms) t e, shallow)), e)

pub judged_holds : (bytes : List ℕ) (t : Tree) → length bytes ≤ longest_document → HoldsWhole bytes t → is_object t ≡ true → depth t ≤ deepest_document → judged bytes ≡ Ok t
judged_holds bytes t short h is shallow = rw (not_above longest_document (length bytes) short, h.1) (judged_whole h.0 t h.2 is shallow)

object_of : (d : json.Data) (t : Tree) → whole d ≡ Some t → is_object t ≡ true → is_some (as_object d) ≡ true
object_of json.null t e h = let never = ap (λ o. is_object (unwrap_or o t)) e ∙ h in absurd (cc)
object_of (json.boolean b) t e h = let never = ap (λ o. is_object (unwrap_or o t)) e ∙ h in absurd (cc)
object_of (json.number n) t e h = let z = of_option_map number (as_i64 n) t e in let never = ap is_object z.2 ∙ h in absurd (cc)
object_of (json.string s) t e h = let never = ap (λ o. is_object (unwrap_or o t)) e ∙ h in absurd (cc)
object_of (json.array ds) t e h = let ts = of_option_map array (whole_items ds) t e in let never = ap is_object ts.2 ∙ h in absurd (cc)
object_of (json.object ms) t e h = refl

pub document_holds : (bytes : List ℕ) (t : Tree) → HoldsWhole bytes t → is_object t ≡ true → depth t ≤ deepest_document → IsPlainDocument t
document_holds bytes t h is shallow =
    document_whole h.0 t (found-IsRead bytes h.0 h.1) h.2 (object_of h.0 t h.2 is) (omega (arith, depth_whole h.0 t h.2, shallow))
