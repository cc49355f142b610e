-- What the replies of a store have: the result of the key at a commit, as a history has issued it.
use Rattle.std.proofs.Common.{◌≡◌, ℕ, ◌+◌, ◌≤◌, true, false, List, [], ◌∷◌, ◌++◌, length, max, Contains, Option, Some, None, refl, sym, ap, ◌∙◌, subst, true≢false, length-append, arith}
use Rattle.std.specs.Prelude.{◌==◌, IfSome}
use Rattle.std.proofs.lemmas.Bool.{eqb-true}
use Rattle.std.proofs.lemmas.List.Elements.{Contains-append_left, Contains-append_right}
use Rattle.query_normal.specs.declared.key.KeyShape.{KeyShape}
use Rattle.commit_book.specs.declared.change.Change.{Change}
use Rattle.hub_model.specs.declared.entry.Answer.{Answer}
use Rattle.hub_model.specs.declared.entry.Tags.TheVariants.{Listed}
use Rattle.hub_model.specs.Journal.{Finding, absent, present, queried, result_at}
use Rattle.hub_model.specs.Known.{known_at}
use Rattle.hub_model.specs.KnownSince.{IsGreatestSame}
use Rattle.hub_model.specs.Later.{IsLater}
use Rattle.hub_model.specs.Reply.{answered, outcome_of}
use Rattle.hub_model.specs.Setting.{Setting}
use Rattle.hub_model.specs.State.{IssuedCopy, State}
use Rattle.hub_model.specs.Step.{copy_of_read, has_read}
use Rattle.client_model.specs.declared.reply.Reply.{Reply}
use Rattle.client_model.specs.Issued.{Has, text_of, status_of, version_of}
use Rattle.cache_model.specs.Cache.{same_tag, updated}
use Rattle.world_core.specs.Link.{IsHeldReply}
use Rattle.world_core.specs.Replies.{read_reply, reply_by}

-- results of a longer journal
abbrev pub OfPrefixes : Type 0
OfPrefixes = (key : KeyShape) (journal more : List Change) (n : ℕ) → n ≤ length journal → result_at key (journal ++ more) n ≡ result_at key journal n

-- what a caller knows by its tags
abbrev pub Known : Type 0
Known = (key : KeyShape) (journal : List Change) (horizon at : ℕ) (tags : List ℕ) (tag : ℕ) → known_at key journal horizon at (Listed tags) ≡ Some tag → IsGreatestSame key journal horizon at tags tag

-- what a tag says, where there is one
abbrev IsTagged : State → KeyShape → ℕ → Option ℕ → Type 0
IsTagged s key commit tag = IfSome tag (λ t. (t ≤ commit) × (result_at key s.journal t ≡ result_at key s.journal commit))

-- ---- later states

tagged_later : (s t : State) (key : KeyShape) (commit : ℕ) (tag : Option ℕ) → ((n : ℕ) → n ≤ commit → result_at key t.journal n ≡ result_at key s.journal n) → IsTagged s key commit tag → IsTagged t key commit tag
tagged_later s t key commit None same h = tt
tagged_later s t key commit (Some tag) same h = (h.0, same tag h.0 ∙ h.1 ∙ sym (same commit (omega arith)))

-- a held reply stays one
pub held_later : OfPrefixes → (s t : State) (key : KeyShape) (reply : Reply) → IsLater s t → IsHeldReply s key reply → IsHeldReply t key reply
held_later of_prefix s t key reply later h =
    let same : (n : ℕ) → n ≤ reply.commit → result_at key t.journal n ≡ result_at key s.journal n =
    λ n low. ap (λ (j : List Change). result_at key j n) later.journal ∙ of_prefix key s.journal later.commits n (let w = h.within in omega (arith, low, w)) in
    let longer = ap length later.journal in
    let sum = length-append s.journal later.commits in
    let w = h.within in
    record {
      issued = record {
        copy = h.issued.copy;
        among = subst (λ (l : List IssuedCopy). Contains l h.issued.copy) (sym later.copies) (Contains-append_left s.copies later.issued h.issued.copy h.issued.among);
        key_is = h.issued.key_is;
        at_is = h.issued.at_is;
        until_is = h.issued.until_is;
        has = subst (λ (f : Finding). Has f reply) (sym (same reply.commit (omega arith))) h.issued.has;
        tagged = tagged_later s t key reply.commit reply.tag same h.issued.tagged;
      };
      within = omega (arith, w, longer, sum);
    }

-- ---- the reply to a read

-- where it is no 304, it has what the key finds, and its tag is its commit
whole_has : (a : Answer) (f : Finding) (known : Option ℕ) → ((reply_by a (outcome_of f known)).status == 304) ≡ false → Has f (reply_by a (outcome_of f known))
whole_has a absent known other = record { body_is = refl; status_is = refl; version_is = refl }
whole_has a (present version tree) (Some tag) other = absurd (true≢false other)
whole_has a (present version tree) None other = record { body_is = refl; status_is = refl; version_is = refl }
whole_has a (queried result) (Some tag) other = absurd (true≢false other)
whole_has a (queried result) None other = record { body_is = refl; status_is = refl; version_is = refl }

whole_tagged : (s : State) (key : KeyShape) (a : Answer) (f : Finding) (known : Option ℕ) → ((reply_by a (outcome_of f known)).status == 304) ≡ false → IsTagged s key a.commit (reply_by a (outcome_of f known)).tag
whole_tagged s key a absent known other = tt
whole_tagged s key a (present version tree) (Some tag) other = absurd (true≢false other)
whole_tagged s key a (present version tree) None other = (omega arith, refl)
whole_tagged s key a (queried result) (Some tag) other = absurd (true≢false other)
whole_tagged s key a (queried result) None other = (omega arith, refl)

-- a 304 has the tag that is known
same_known : (a : Answer) (f : Finding) (known : Option ℕ) → ((reply_by a (outcome_of f known)).status == 304) ≡ true → (reply_by a (outcome_of f known)).tag ≡ known
same_known a absent known same = absurd (true≢false (sym same))
same_known a (present version tree) (Some tag) same = refl
same_known a (present version tree) None same = absurd (true≢false (sym same))
same_known a (queried result) (Some tag) same = refl
same_known a (queried result) None same = absurd (true≢false (sym same))

-- the numbers of a reply are those of the answer
commit_of : (a : Answer) (f : Finding) (known : Option ℕ) → (reply_by a (outcome_of f known)).commit ≡ a.commit
commit_of a absent known = refl
commit_of a (present version tree) (Some tag) = refl
commit_of a (present version tree) None = refl
commit_of a (queried result) (Some tag) = refl
commit_of a (queried result) None = refl

until_with : (a : Answer) (f : Finding) (known : Option ℕ) → (reply_by a (outcome_of f known)).until ≡ a.clock + max a.ttl a.shared
until_with a absent known = refl
until_with a (present version tree) (Some tag) = refl
until_with a (present version tree) None = refl
until_with a (queried result) (Some tag) = refl
until_with a (queried result) None = refl

-- equal tags name one commit
alike_tags : (a b : Option ℕ) → same_tag a b ≡ true → (t : ℕ) × (a ≡ Some t) × (b ≡ Some t)
alike_tags None b e = absurd (true≢false (sym e))
alike_tags (Some x) None e = absurd (true≢false (sym e))
alike_tags (Some x) (Some y) e = (y, ap (λ (n : ℕ). Some n) (eqb-true x y e), refl)

-- after a read at the last commit, in a state whose clock is that of the read
module _ (g : Setting) (s : State) (key : KeyShape) (tags : List ℕ) where
  abbrev at : ℕ
  at = length s.journal

  abbrev a : Answer
  a = answered g key (Listed tags) at s

  abbrev reply : Reply
  reply = read_reply a

  abbrev after : State
  after = has_read g key at s

  abbrev copy : IssuedCopy
  copy = copy_of_read g s key at

  among : Contains after.copies copy
  among = Contains-append_right s.copies (copy ∷ []) copy (0, omega arith, refl)

  -- it is issued, where it is no 304
  pub read_held : (reply.status == 304) ≡ false → IsHeldReply after key reply
  read_held other =
      let f = result_at key s.journal at in
      let known = known_at key s.journal s.horizon at (Listed tags) in
      let commit = commit_of a f known in
      record {
        issued = record {
          copy = copy;
          among = among;
          key_is = refl;
          at_is = sym commit;
          until_is = sym (until_with a f known);
          has = subst (λ (n : ℕ). Has (result_at key s.journal n) reply) (sym commit) (whole_has a f known other);
          tagged = subst (λ (n : ℕ). IsTagged after key n reply.tag) (sym commit) (whole_tagged after key a f known other);
        };
        within = omega (arith, commit);
      }

  -- a 304 makes a held reply of its tag one that is issued now
  pub updated_held : Known → (held : Reply) → IsHeldReply after key held → same_tag held.tag reply.tag ≡ true → (reply.status == 304) ≡ true → IsHeldReply after key (updated held reply)
  updated_held is_known held h alike same =
      let f = result_at key s.journal at in
      let known = known_at key s.journal s.horizon at (Listed tags) in
      let commit = commit_of a f known in
      let both = alike_tags held.tag reply.tag alike in
      let tag = both.0 in
      let great = is_known key s.journal s.horizon at tags tag (sym (same_known a f known same) ∙ both.2) in
      let old : IsTagged s key held.commit (Some tag) = subst (λ (o : Option ℕ). IsTagged s key held.commit o) both.1 h.issued.tagged in
      let onward : result_at key s.journal held.commit ≡ result_at key s.journal reply.commit =
      sym old.1 ∙ great.same ∙ ap (result_at key s.journal) (sym commit) in
      let low = great.within in
      record {
        issued = record {
          copy = copy;
          among = among;
          key_is = refl;
          at_is = sym commit;
          until_is = sym (until_with a f known);
          has = record {
            body_is = h.issued.has.body_is ∙ ap text_of onward;
            status_is = h.issued.has.status_is ∙ ap status_of onward;
            version_is = h.issued.has.version_is ∙ ap version_of onward;
          };
          tagged = subst (λ (o : Option ℕ). IsTagged s key reply.commit o) (sym both.1) (omega (arith, low, commit), great.same ∙ ap (result_at key s.journal) (sym commit));
        };
        within = omega (arith, commit);
      }
