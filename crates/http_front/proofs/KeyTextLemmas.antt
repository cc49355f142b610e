-- The texts of keys in a list of purges.
use Rattle.std.proofs.Common.{◌≡◌, ℕ, ◌+◌, ◌<◌, List, [], ◌∷◌, ◌++◌, length, map, drop, get_or, codes, decimal, refl, sym, ap, ap₂, ◌∙◌, append_assoc, length-append}
use Rattle.std.specs.List.{flat_map, join_by}
use Rattle.std.proofs.lemmas.List.{drop_more}
use Rattle.json.specs.Print.{quoted}
use Rattle.hub_model.specs.Reply.{told_of}
use Rattle.hub_model.specs.declared.entry.PurgeReply.{PurgeReply}
use Rattle.query_normal.specs.Keys.{key_text}
use Rattle.query_normal.specs.declared.key.KeyShape.{KeyShape}
use Rattle.http_front.specs.Bodies.{key_json, keys_behind, keys_json, purges_start, purges_end}
use Rattle.http_front.specs.ReplyText.{purges_body}

-- what is left of the keys, with one key less
pub keys_left : (keys : List KeyShape) (i : ℕ) (key : KeyShape) → i < length keys → key ≡ get_or keys i key → keys_behind (drop i keys) ≡ (codes "," ++ key_json key) ++ keys_behind (drop (i + 1) keys)
keys_left keys i key inside is =
    ap keys_behind (drop_more keys i key inside) ∙ ap (λ k. (codes "," ++ key_json k) ++ keys_behind (drop (i + 1) keys)) (sym is)

-- the texts with a comma before each, by the keys and by their texts
behind_texts : (keys : List KeyShape) → flat_map (λ text. codes "," ++ quoted text) (map key_text keys) ≡ keys_behind keys
behind_texts [] = refl
behind_texts (key ∷ keys) = ap (λ t. (codes "," ++ quoted (key_text key)) ++ t) (behind_texts keys)

listed_texts : (keys : List KeyShape) → join_by quoted (codes ",") (map key_text keys) ≡ keys_json keys
listed_texts [] = refl
listed_texts (key ∷ keys) = ap (λ t. quoted (key_text key) ++ t) (behind_texts keys)

regrouped : (start keys a b c : List ℕ) → start ++ keys ++ a ++ b ++ c ≡ start ++ (keys ++ (a ++ b ++ c))
regrouped start keys a b c = simp append_assoc

-- a list of purges is its start, the texts of its keys and its end
pub purges_parts : (p : PurgeReply) → purges_body (told_of p) ≡ purges_start p ++ (keys_json p.keys.items ++ purges_end p)
unfolding purges_body
purges_parts p =
    ap (λ keys. purges_start p ++ keys ++ codes "],\"last\":" ++ decimal p.last ++ codes "}") (listed_texts p.keys.items)
    ∙ regrouped (purges_start p) (keys_json p.keys.items) (codes "],\"last\":") (decimal p.last) (codes "}")

-- their lengths
pub purges_length : (p : PurgeReply) → length (purges_body (told_of p)) ≡ length (purges_start p) + (length (keys_json p.keys.items) + length (purges_end p))
purges_length p =
    ap length (purges_parts p) ∙ length-append (purges_start p) (keys_json p.keys.items ++ purges_end p)
    ∙ ap (λ n. length (purges_start p) + n) (length-append (keys_json p.keys.items) (purges_end p))

-- the same, of pieces that were written
pub purges_pieces : (p : PurgeReply) (keys : List KeyShape) (start end : List ℕ) → start ≡ purges_start p → keys ≡ p.keys.items → end ≡ purges_end p
    → purges_body (told_of p) ≡ start ++ (keys_json keys ++ end)
purges_pieces p keys start end start_is keys_is end_is =
    purges_parts p
    ∙ sym (ap₂ (λ xs ys. xs ++ ys) start_is (ap₂ (λ xs ys. xs ++ ys) (ap keys_json keys_is) end_is))
