use Rattle.std.proofs.Common.{◌≡◌, not, ◌&&◌, ◌||◌, [], option_to_list, true, false, Bool, List, ◌++◌, Option, None, Some, sym, ap, ◌∙◌}
use Rattle.std.specs.List.{list_any}
use Rattle.query_normal.specs.declared.key.KeyShape.{KeyShape as AKey}
use Rattle.query_normal.specs.Keys.{same_key}
use Rattle.query_normal.specs.SameKey.{same_key-Decides}
use Rattle.expiring_map.proofs.KeyLemmas.{IsLeft, absent-left, both-left, first-left}
use Rattle.expiring_map.proofs.reserved.ReservedKeys.take.Goals as goal
use Rattle.expiring_map.proofs.reserved.ReservedKeys.take.Goals.{in-Some+else-eq+in-Some-1, in-Some+else-eq+in-None-1, in-None}

-- the first key is the key
pub returns-then-eq-clause-key : goal.returns-then-eq-clause-key
returns-then-eq-clause-key c = sym ((same_key-Decides c.args.key.now c.in-Some.first).0 (sym c.eq.ensures ∙ c.if-eq.true))

pub returns-then-eq-clause-left : goal.returns-then-eq-clause-left
returns-then-eq-clause-left c other =
    let is : c.self.inside.first ≡ Some c.in-Some.first = sym c.take.ensures.value ∙ c.in-Some.is in
    let there : list_any (same_key c.args.key.now) (option_to_list c.self.inside.first) ≡ true =
    ap (λ (o : Option AKey). list_any (same_key c.args.key.now) (option_to_list o)) is
    ∙ ap (λ (b : Bool). b || false) (sym c.eq.ensures ∙ c.if-eq.true) in
    ap (λ (o : Option AKey). list_any (same_key other) (option_to_list o ++ c.leave_out.new.keys.keys)) c.take.ensures.after
    ∙ both-left c.args.key.now other (option_to_list c.self.inside.first) [] c.self.inside.others.keys c.leave_out.new.keys.keys
    (first-left c.args.key.now other c.self.inside.first there)
    (c.leave_out.ensures.left other)
    ∙ ap (λ (keys : List AKey). not (same_key c.args.key.now other) && list_any (same_key other) keys) c.self.view_is

-- it is another one, or there is none
others-left : (key other : AKey) (first kept : Option AKey) (keys old left now : List AKey) → kept ≡ first → keys ≡ old → list_any (same_key key) (option_to_list first) ≡ false → IsLeft key other keys left → option_to_list first ++ old ≡ now → IsLeft key other now (option_to_list kept ++ left)
others-left key other first kept keys old left now first_is keys_are absent parted whole =
    ap (λ (o : Option AKey). list_any (same_key other) (option_to_list o ++ left)) first_is
    ∙ both-left key other (option_to_list first) (option_to_list first) keys left (absent-left key other (option_to_list first) absent) parted
    ∙ ap (λ (ks : List AKey). not (same_key key other) && list_any (same_key other) ks) (ap (λ (ks : List AKey). option_to_list first ++ ks) keys_are ∙ whole)

pub returns-clause-left : goal.returns-clause-left
returns-clause-left c other = elim c.match-take.branch [
  | in-Some+else-eq+in-Some-1 w ↦ (
      let is : c.self.inside.first ≡ Some w.in-Some.first = sym c.take.ensures.value ∙ w.in-Some.is in
      by (ap (λ s. s.first) w.self-inside-is ∙ sym is) (ap (λ s. s.others.keys) w.self-inside-is)
      (ap (λ (o : Option AKey). list_any (same_key c.args.key.now) (option_to_list o)) is ∙ ap (λ (b : Bool). b || false) (sym w.eq.ensures ∙ w.if-eq.false)))
  | in-Some+else-eq+in-None-1 w ↦ (
      let is : c.self.inside.first ≡ Some w.in-Some.first = sym c.take.ensures.value ∙ w.in-Some.is in
      by (ap (λ s. s.first) w.self-inside-is ∙ sym is) (ap (λ s. s.others.keys) w.self-inside-is)
      (ap (λ (o : Option AKey). list_any (same_key c.args.key.now) (option_to_list o)) is ∙ ap (λ (b : Bool). b || false) (sym w.eq.ensures ∙ w.if-eq.false)))
  | in-None w ↦ (
      let is : c.self.inside.first ≡ None = sym c.take.ensures.value ∙ w.in-None.is in
      by (ap (λ s. s.first) w.self-inside-is ∙ c.take.ensures.after ∙ sym is) (ap (λ s. s.others.keys) w.self-inside-is)
      (ap (λ (o : Option AKey). list_any (same_key c.args.key.now) (option_to_list o)) is))
]
  where
    by : c.match-take.self-inside.first ≡ c.self.inside.first → c.match-take.self-inside.others.keys ≡ c.self.inside.others.keys → list_any (same_key c.args.key.now) (option_to_list c.self.inside.first) ≡ false → IsLeft c.args.key.now other c.args.self.now (option_to_list c.match-take.self-inside.first ++ c.take_key.new.keys.keys)
    by first_is keys_are absent = others-left c.args.key.now other c.self.inside.first c.match-take.self-inside.first c.match-take.self-inside.others.keys c.self.inside.others.keys c.take_key.new.keys.keys c.args.self.now first_is keys_are absent (c.take_key.ensures.left other) c.self.view_is
