-- What the fields of the last ten queries are, and the key of what is read.
use Rattle.std.proofs.Common.{◌≡◌, ℕ, zero, suc, ◌/◌, ◌%◌, Bool, List, Option, Some, None, codes, refl, sym, ap, ◌∙◌, subst}
use Rattle.std.specs.Prelude.{Result, Ok, Err}
use Rattle.query_core.specs.declared.query.Kind.{Kind}
use Rattle.query_core.specs.declared.query.Query.{Query}
use Rattle.query_normal.specs.Normal.{normal_query}
use Rattle.query_normal.specs.declared.key.KeyShape.{KeyShape}
use Rattle.query_normal.specs.declared.key.KeyShape.TheVariants as key
use Rattle.query_lang.specs.Queries.{bytes_of, read_query, read_texts}
use Rattle.query_lang.specs.declared.query.Fields.{Fields}
use Rattle.query_lang.specs.declared.refusal.QueryRefusal.{QueryRefusal}
use Rattle.world_core.specs.Products.{collection}
use Rattle.world_core.specs.Queries.{after_with, before_with, filter_with, key_of_read, kind_word, limit_with, order_with, query_key, skip_with, take_with}

pub before_rest : (ten : ℕ) → (ten ≡ 0 → ⊥) → (ten ≡ 1 → ⊥) → (ten ≡ 2 → ⊥) → codes "not (cat = " ≡ before_with ten
before_rest zero a b c = absurd (a refl)
before_rest (suc zero) a b c = absurd (b refl)
before_rest (suc (suc zero)) a b c = absurd (c refl)
before_rest (suc (suc (suc n))) a b c = refl

pub limit_rest : (ten unit : ℕ) → (ten ≡ 0 → ⊥) → (ten ≡ 1 → ⊥) → (ten ≡ 2 → ⊥) → unit ≡ limit_with ten unit
limit_rest zero unit a b c = absurd (a refl)
limit_rest (suc zero) unit a b c = absurd (b refl)
limit_rest (suc (suc zero)) unit a b c = absurd (c refl)
limit_rest (suc (suc (suc n))) unit a b c = refl

pub after_rest : (ten : ℕ) → (ten ≡ 0 → ⊥) → (ten ≡ 1 → ⊥) → (ten ≡ 2 → ⊥) → codes ") and price >= 900" ≡ after_with ten
after_rest zero a b c = absurd (a refl)
after_rest (suc zero) a b c = absurd (b refl)
after_rest (suc (suc zero)) a b c = absurd (c refl)
after_rest (suc (suc (suc n))) a b c = refl

pub order_rest : (ten : ℕ) → (ten ≡ 0 → ⊥) → (ten ≡ 1 → ⊥) → (ten ≡ 2 → ⊥) → codes "name" ≡ order_with ten
order_rest zero a b c = absurd (a refl)
order_rest (suc zero) a b c = absurd (b refl)
order_rest (suc (suc zero)) a b c = absurd (c refl)
order_rest (suc (suc (suc n))) a b c = refl

pub skip_rest : (ten : ℕ) → (ten ≡ 0 → ⊥) → (ten ≡ 1 → ⊥) → (ten ≡ 2 → ⊥) → codes "5" ≡ skip_with ten
skip_rest zero a b c = absurd (a refl)
skip_rest (suc zero) a b c = absurd (b refl)
skip_rest (suc (suc zero)) a b c = absurd (c refl)
skip_rest (suc (suc (suc n))) a b c = refl

pub take_rest : (ten : ℕ) → (ten ≡ 0 → ⊥) → (ten ≡ 1 → ⊥) → (ten ≡ 2 → ⊥) → codes "10" ≡ take_with ten
take_rest zero a b c = absurd (a refl)
take_rest (suc zero) a b c = absurd (b refl)
take_rest (suc (suc zero)) a b c = absurd (c refl)
take_rest (suc (suc (suc n))) a b c = refl

-- the key of a query that was read
pub key_read : (read : Result (Query × Kind) QueryRefusal) (query : Query) (kind : Kind) → read ≡ Ok (query, kind) → key.Query kind (normal_query query) ≡ key_of_read read
key_read read query kind e = sym (ap key_of_read e)

-- the key of the fields whose texts are those of a query
pub fields_key : (number : ℕ) (is_ids : Bool) (fields : Fields) → bytes_of fields.f ≡ filter_with (number / 10) (number % 10) → bytes_of fields.o ≡ order_with (number / 10) → bytes_of fields.s ≡ skip_with (number / 10)
    → bytes_of fields.n ≡ take_with (number / 10) → bytes_of fields.k ≡ kind_word is_ids → key_of_read (read_query collection fields) ≡ query_key number is_ids
unfolding read_query query_key
fields_key number is_ids fields f o s n k =
    ap (λ (text : List ℕ). key_of_read (read_texts collection text (bytes_of fields.o) (bytes_of fields.s) (bytes_of fields.n) (bytes_of fields.k))) f
    ∙ ap (λ (text : List ℕ). key_of_read (read_texts collection (filter_with (number / 10) (number % 10)) text (bytes_of fields.s) (bytes_of fields.n) (bytes_of fields.k))) o
    ∙ ap (λ (text : List ℕ). key_of_read (read_texts collection (filter_with (number / 10) (number % 10)) (order_with (number / 10)) text (bytes_of fields.n) (bytes_of fields.k))) s
    ∙ ap (λ (text : List ℕ). key_of_read (read_texts collection (filter_with (number / 10) (number % 10)) (order_with (number / 10)) (skip_with (number / 10)) text (bytes_of fields.k))) n
    ∙ ap (λ (text : List ℕ). key_of_read (read_texts collection (filter_with (number / 10) (number % 10)) (order_with (number / 10)) (skip_with (number / 10)) (take_with (number / 10)) text)) k
