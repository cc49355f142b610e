-- Item by item, what a connection to a desk did.
use Rattle.std.proofs.Common.{◌≡◌, ◌⊎◌, ℕ, ◌+◌, ◌≤◌, ◌++◌, Bool, List, [], ◌∷◌, length, Result, refl, sym, ap, ◌∙◌, subst, inl, inr, arith, append-nil, append_assoc}
use Rattle.std.proofs.lemmas.Bool.{cases_lt}
use Rattle.dialogue.specs.Dialogue.{Sides, Exchange, Answered, Dialogue, is_last}
use Rattle.http_front.specs.ReplyText.{IsReplyText}
use Rattle.http_front.specs.declared.shape.Shape.{Shape}
use Rattle.http_front.specs.declared.told.Told.{Told}
use Rattle.http_front.specs.declared.told.Told.TheVariants.{Unkept}
use Rattle.http_message.specs.Item.{Item}
use Rattle.hub_model.specs.declared.entry.Entry.{Entry}
use Rattle.hub_model.specs.Setting.{Setting}
use Rattle.hub_model.specs.Step.{state_of}
use Rattle.q_outside.specs.Ends.{Ticks, End, Gave}
use Rattle.q_outside.specs.declared.served.Served.{Served}
use Rattle.quaestor_server.specs.Answer.{Shows, has_entry}
use Rattle.quaestor_server.specs.Ask.{asked_by, is_known_early, shape_by}
use Rattle.quaestor_server.specs.Conversation.{RepliesAt, ConnectionState, Replies, AnswersAt, Conversation, ShowsWithin, AllWithin, WereKept, AreKept}

-- the list is the same from one state to the other where more commits are allowed
within_more : (g : Setting) (unready : Bool) (m n count : ℕ) (first : ConnectionState) (xs : List Exchange) (last : ConnectionState) (t : Answered (Replies g unready) count first xs last) → m ≤ n → AllWithin g unready m count first xs last t → AllWithin g unready n count first xs last t
within_more g unready m n count first [] last t le w = tt
within_more g unready m n count first (x ∷ xs) last t le w = (
  elim w.0 [
    | inl none ↦ inl none
    | inr few ↦ inr (omega (arith, few, le))
  ],
  within_more g unready m n (count + 1) t.0 xs last t.2 le w.1,
)

-- What answers has a desk and a clock.
module _ {A D C T : Type 0} (desk : A → D) (clock : A → C) (setting : D → Setting) (unready : Bool) (seen : D → List Entry) (mine : D → List (ℕ × Entry)) (anchor : D → T) (is_kept : D → Type 0) (tick : C → ℕ → C → Type 0) where
  -- how it answers
  abbrev AnswersItem : A → Item → Bool → List ℕ → A → Type 0
  AnswersItem a item close text b = AnswersAt setting unready seen mine anchor is_kept tick (desk a) (desk b) (clock a) (clock b) item close text

  -- the state of the connection after these moments
  abbrev connection_state : A → List ℕ → List Bool → ConnectionState
  connection_state a moments entered = record { seen = seen (desk a); mine = mine (desk a); moments = moments; entered = entered }

  -- so many commits were kept
  abbrev Stand : Setting → T → ℕ → Type 0
  Stand g tied commits = AreKept setting seen anchor is_kept g tied commits

  -- the moments of a list of items, which of them have entries, their answers in a configuration, and how many commits those show
  record Chained (g : Setting) (tied : T) (count : ℕ) (first last : A) (xs : List Exchange) (ms : List ℕ) (es : List Bool) : Type 0 where
    moments : List ℕ
    all_moments : List ℕ
    moments_are : all_moments ≡ ms ++ moments
    all_entered : List Bool
    ticks : Ticks tick (clock first) moments (clock last)
    answered : Answered (Replies g unready) count (connection_state first ms es) xs (connection_state last all_moments all_entered)
    commits : ℕ
    within : AllWithin g unready commits count (connection_state first ms es) xs (connection_state last all_moments all_entered) answered
    stands : Stand g tied commits

  -- one answer more shows the commits that the desk knew behind it, or none
  record Reaches (g : Setting) (tied : T) (commits : ℕ) (next : D) (shown : Told) : Type 0 where
    all : ℕ
    more : commits ≤ all
    within : ShowsWithin g all (seen next) shown
    stands : Stand g tied all

  reaches : (g : Setting) (tied : T) (commits : ℕ) (next : D) (shown : Told) → setting next ≡ g → anchor next ≡ tied → Stand g tied commits → (shown ≡ Unkept) ⊎ is_kept next → Reaches g tied commits next shown
  reaches g tied commits next shown same bound stands (inl none) = record { all = commits; more = omega arith; within = inl none; stands = stands }
  reaches g tied commits next shown same bound stands (inr kept) = elim (cases_lt commits (length (state_of g (seen next)).journal)) [
    | inl less ↦ record {
      all = length (state_of g (seen next)).journal;
      more = omega (arith, less);
      within = inr (omega arith);
      stands = inr (record { desk = next; setting_is = same; anchor_is = bound; commits_are = refl; kept = kept });
    }
    | inr most ↦ record { all = commits; more = omega arith; within = inr (omega (arith, most)); stands = stands }
  ]

  -- a list of answers leads from one connection state to another
  chain : (g : Setting) (tied : T) (count : ℕ) (first last : A) (xs : List Exchange) (ms : List ℕ) (es : List Bool) → setting (desk first) ≡ g → anchor (desk first) ≡ tied → Answered AnswersItem count first xs last → Chained g tied count first last xs ms es
  chain g tied count first last [] ms es same bound t = record {
    moments = [];
    all_moments = ms;
    moments_are = sym (append-nil ms);
    all_entered = es;
    ticks = ap clock t;
    answered = ap (λ (l : A). connection_state l ms es) t;
    commits = 0;
    within = tt;
    stands = inl refl;
  }
  chain g tied count first last (x ∷ xs) ms es same bound t =
      let next = t.0 in
      let r = t.1 in
      let At : Setting → Type 0 = λ s. (at : RepliesAt s unready (seen (desk first)) (seen (desk next)) (mine (desk first)) (mine (desk next)) r.moment x.item (is_last count x) x.answer) × ((at.shown ≡ Unkept) ⊎ is_kept (desk next)) in
      let at : At g = subst At same (r.at, r.stands) in
      let v = has_entry at.0.shows.answer in
      let rest : Chained g tied (count + 1) next last xs (ms ++ r.moment ∷ []) (es ++ v ∷ []) = chain g tied (count + 1) next last xs (ms ++ r.moment ∷ []) (es ++ v ∷ []) (r.same ∙ same) (r.tied ∙ bound) t.2 in
      let more : Reaches g tied rest.commits (desk next) at.0.shown = reaches g tied rest.commits (desk next) at.0.shown (r.same ∙ same) (r.tied ∙ bound) rest.stands at.1 in
      record {
        moments = r.moment ∷ rest.moments;
        all_moments = rest.all_moments;
        moments_are = rest.moments_are ∙ append_assoc ms (r.moment ∷ []) rest.moments;
        all_entered = rest.all_entered;
        ticks = (clock next, r.ticks, rest.ticks);
        answered = (connection_state next (ms ++ r.moment ∷ []) (es ++ v ∷ []), record { moment = r.moment; at = at.0; moments_are = refl; entered_are = refl }, rest.answered);
        commits = more.all;
        within = (more.within, within_more g unready rest.commits more.all (count + 1) (connection_state next (ms ++ r.moment ∷ []) (es ++ v ∷ [])) xs (connection_state last rest.all_moments rest.all_entered) rest.answered more.more rest.within);
        stands = more.stands;
      }

  -- a dialogue with it is a conversation, from one desk and clock to another
  pub conversation : (first last : A) (a b : Sides) (served : Served) (d : D) (c : C) → Dialogue AnswersItem first last a b served → d ≡ desk last → c ≡ clock last → Conversation (setting (desk first)) unready (λ moments. Ticks tick (clock first) moments c) (Stand (setting (desk first)) (anchor (desk first))) (seen (desk first)) (seen d) (mine (desk first)) (mine d) a b served
  conversation first last a b served d c dialogue same_desk same_clock =
      let g = setting (desk first) in
      let all : Chained g (anchor (desk first)) 0 first last dialogue.passed.exchanges [] [] = chain g (anchor (desk first)) 0 first last dialogue.passed.exchanges [] [] refl refl dialogue.answered in
      let begun : ConnectionState = record { seen = seen (desk first); mine = mine (desk first); moments = []; entered = [] } in
      let at : D → ConnectionState = λ l. record { seen = seen l; mine = mine l; moments = all.all_moments; entered = all.all_entered } in
      let Both : D → Type 0 = λ l. (answered : Answered (Replies g unready) 0 begun dialogue.passed.exchanges (at l)) × AllWithin g unready all.commits 0 begun dialogue.passed.exchanges (at l) answered in
      let both : Both d = subst Both (sym same_desk) (all.answered, all.within) in
      record {
        moments = all.all_moments;
        entered = all.all_entered;
        ticks = subst (λ (l : C). Ticks tick (clock first) all.all_moments l) (sym same_clock) (subst (λ (l : List ℕ). Ticks tick (clock first) l (clock last)) (sym all.moments_are) all.ticks);
        dialogue = record { passed = dialogue.passed; answered = both.0 };
        commits = all.commits;
        within = both.1;
        stands = all.stands;
      }

-- the reply that was given is that of what the desk answered
pub replies : {D C A T E : Type 0} (setting : D → Setting) (unready : Bool) (seen : D → List Entry) (mine : D → List (ℕ × Entry)) (anchor : D → A) (is_kept : D → Type 0) (tick : C → ℕ → C → Type 0) (a b : D) (c d : C) (item : Item) (close : Bool) (moment : ℕ) (shape : Shape) (shown : Told) (page bytes : List ℕ) (before after : End) (given : Result T E) → setting b ≡ setting a → anchor b ≡ anchor a → (shown ≡ Unkept) ⊎ is_kept b → tick c moment d → shape ≡ shape_by (setting a).origins item → bytes ≡ page → Shows (setting a) unready (seen a) (seen b) (mine a) (mine b) moment (is_known_early (setting a).hosts item) (asked_by (setting a).hosts item) shown page → (text : List ℕ) × IsReplyText shape shown bytes close text × Gave before after text given → (text : List ℕ) × AnswersAt setting unready seen mine anchor is_kept tick a b c d item close text × Gave before after text given
replies setting unready seen mine anchor is_kept tick a b c d item close moment shape shown page bytes before after given same tied stands ticks shape_is bytes_are shows reply = (
  reply.0,
  record {
    same = same;
    tied = tied;
    stands = stands;
    moment = moment;
    ticks = ticks;
    at = record {
      shown = shown;
      page = page;
      shows = shows;
      text_is = subst (λ (l : List ℕ). IsReplyText (shape_by (setting a).origins item) shown l close reply.0) bytes_are (subst (λ (s : Shape). IsReplyText s shown bytes close reply.0) shape_is reply.1);
    };
  },
  reply.2,
)

-- what is noted behind a reply changes nothing of what was given
pub given_noted : {T E : Type 0} (P : List ℕ → Type 0) (before after later : End) (given : Result T E) → later ≡ after → (text : List ℕ) × P text × Gave before after text given → (text : List ℕ) × P text × Gave before later text given
given_noted P before after later given same reply = (reply.0, reply.1, subst (λ (e : End). Gave before e reply.0 given) (sym same) reply.2)
