-- The outcome of a read of a record, by the text that the book keeps of it.
use Rattle.std.proofs.Common.{◌≡◌, ℕ, max, List, Option, Some, None, refl, sym, ap, ap₂, ◌∙◌}
use Rattle.q_doc.specs.Printed.{printed}
use Rattle.q_doc.specs.Tree.{Tree}
use Rattle.query_normal.specs.declared.key.KeyShape.TheVariants.{Record}
use Rattle.commit_book.specs.declared.change.Change.{Change}
use Rattle.commit_book.specs.Journal.{document_at, text_at, printed_of}
use Rattle.hub_model.specs.declared.entry.Outcome.{Outcome}
use Rattle.hub_model.specs.declared.entry.Outcome.TheVariants.{Whole, Same, Absent}
use Rattle.hub_model.specs.declared.entry.Tags.{Tags}
use Rattle.hub_model.specs.Journal.{document_finding, present, result_at}
use Rattle.hub_model.specs.Known.{known_at}
use Rattle.hub_model.specs.KnownSince.{known_since}
use Rattle.hub_model.specs.Reply.{outcome_of}
use Rattle.hub_model.proofs.Known.{known-record}

-- the outcome of a document of this version and this text, which the caller may know
abbrev of_text : ℕ → List ℕ → Option ℕ → Outcome
of_text version text (Some tag) = Same tag (Some version)
of_text version text None = Whole text (Some version)

of_document : (version : ℕ) (tree : Tree) (known : Option ℕ) → of_text version (printed tree) known ≡ outcome_of (present version tree) known
of_document version tree (Some tag) = refl
of_document version tree None = refl

-- of a record at a commit
module _ (journal : List Change) (horizon at : ℕ) (collection id : List ℕ) (tags : Tags) where
  -- where it has no text there is nothing
  pub no_text : None ≡ text_at journal at collection id → Absent ≡ outcome_of (result_at (Record collection id) journal at) (known_at (Record collection id) journal horizon at tags)
  no_text is = by (document_at journal at collection id) is
    where
      by : (found : Option (ℕ × Tree)) → None ≡ printed_of found → Absent ≡ outcome_of (document_finding found) (known_at (Record collection id) journal horizon at tags)
      by None is = refl
      by (Some d) is = absurd (let e : ◌≡◌ {A = Option (ℕ × List ℕ)} None (Some (d.0, printed d.1)) = is in cc)

  -- where it has a text the caller knows it by its version, or is given it
  pub some_text : (version : ℕ) (text : List ℕ) (known : Option ℕ) → Some (version, text) ≡ text_at journal at collection id → known ≡ known_since (max horizon version) at tags → of_text version text known ≡ outcome_of (result_at (Record collection id) journal at) (known_at (Record collection id) journal horizon at tags)
  some_text version text known is known_is = by (document_at journal at collection id) refl is
    where
      by : (found : Option (ℕ × Tree)) → document_at journal at collection id ≡ found → Some (version, text) ≡ printed_of found → of_text version text known ≡ outcome_of (result_at (Record collection id) journal at) (known_at (Record collection id) journal horizon at tags)
      by None found e = absurd (let f : ◌≡◌ {A = Option (ℕ × List ℕ)} (Some (version, text)) None = e in cc)
      by (Some d) found e =
          let pair : (version, text) ≡ (d.0, printed d.1) = (let f : ◌≡◌ {A = Option (ℕ × List ℕ)} (Some (version, text)) (Some (d.0, printed d.1)) = e in cc) in
          let version_is : version ≡ d.0 = ap (λ (p : ℕ × List ℕ). p.0) pair in
          let text_is : text ≡ printed d.1 = ap (λ (p : ℕ × List ℕ). p.1) pair in
          let same : known ≡ known_at (Record collection id) journal horizon at tags =
          known_is ∙ ap (λ (v : ℕ). known_since (max horizon v) at tags) version_is ∙ sym (known-record journal collection id horizon at d found tags) in
          (λ i. of_text (version_is i) (text_is i) known) ∙ of_document d.0 d.1 known
          ∙ ap₂ outcome_of (sym (ap document_finding found)) same

  pub known_text : (version tag : ℕ) (text : List ℕ) → Some (version, text) ≡ text_at journal at collection id → Some tag ≡ known_since (max horizon version) at tags → Same tag (Some version) ≡ outcome_of (result_at (Record collection id) journal at) (known_at (Record collection id) journal horizon at tags)
  known_text version tag text is known = some_text version text (Some tag) is known

  pub whole_text : (version : ℕ) (text : List ℕ) → Some (version, text) ≡ text_at journal at collection id → None ≡ known_since (max horizon version) at tags → Whole text (Some version) ≡ outcome_of (result_at (Record collection id) journal at) (known_at (Record collection id) journal horizon at tags)
  whole_text version text is known = some_text version text None is known

pub ruleset outcome_rules = (no_text, known_text, whole_text)
