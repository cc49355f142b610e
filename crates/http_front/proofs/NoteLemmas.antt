-- What is noted of a reply does not depend on the length of its body, nor on whether the connection ends.
use Rattle.std.proofs.Common.{◌≡◌, ℕ, Bool, true, false, ◌&&◌, refl}
use Rattle.hub_model.specs.declared.entry.Answer.{Answer}
use Rattle.hub_model.specs.declared.entry.Outcome.{Outcome}
use Rattle.hub_model.specs.declared.entry.Outcome.TheVariants.{Whole, Same, Absent}
use Rattle.hub_model.specs.declared.entry.Written.TheVariants.{Done, Precondition, Full}
use Rattle.http_front.specs.ReplyText.{head_of, is_of_method, read_head, refusal_head}
use Rattle.http_front.specs.declared.refused.Refused.{Refused}
use Rattle.http_front.specs.declared.shape.Shape.{Shape}
use Rattle.http_front.specs.declared.told.Told.{Told}
use Rattle.http_front.specs.declared.told.Told.TheVariants.{Write, Read, Match, Dropped, Page, Count, Purges, Refusal, Memory, Unkept}
use Rattle.http_front.specs.declared.head.Head.{Head}

-- Two heads have the same status and lifetime.
pub record AreAlike (h k : Head) : Type 0 where
  pub status : h.status ≡ k.status
  pub ttl : h.ttl ≡ k.ttl

refused_by : (b : Bool) (shape : Shape) (refused : Refused) (size other : ℕ) (close last : Bool) → (shape.asks && is_of_method refused) ≡ b
    → AreAlike (refusal_head shape refused size close) (refusal_head shape refused other last)
refused_by true shape refused size other close last e = rw e (record { status = refl; ttl = refl })
refused_by false shape refused size other close last e = rw e (record { status = refl; ttl = refl })

read_by : (a : Answer) (o : Outcome) (size other : ℕ) (close last : Bool) → AreAlike (read_head a o size close) (read_head a o other last)
read_by a (Whole text version) size other close last = record { status = refl; ttl = refl }
read_by a (Same tag version) size other close last = record { status = refl; ttl = refl }
read_by a Absent size other close last = record { status = refl; ttl = refl }

-- the heads of a reply
pub heads_alike : (shape : Shape) (told : Told) (size other : ℕ) (close last : Bool) → AreAlike (head_of shape told size close) (head_of shape told other last)
heads_alike shape (Write (Done commit before clock)) size other close last = record { status = refl; ttl = refl }
heads_alike shape (Write (Precondition found clock)) size other close last = record { status = refl; ttl = refl }
heads_alike shape (Write (Full bytes clock)) size other close last = record { status = refl; ttl = refl }
heads_alike shape (Read answer) size other close last =
    let same = read_by answer answer.result size other close last in
    record { status = same.status; ttl = same.ttl }
heads_alike shape (Match matched) size other close last = record { status = refl; ttl = refl }
heads_alike shape (Dropped dropped) size other close last = record { status = refl; ttl = refl }
heads_alike shape (Page clock) size other close last = record { status = refl; ttl = refl }
heads_alike shape (Count stats) size other close last = record { status = refl; ttl = refl }
heads_alike shape (Purges reply) size other close last = record { status = refl; ttl = refl }
heads_alike shape (Refusal refused clock) size other close last =
    let same = refused_by (shape.asks && is_of_method refused) shape refused size other close last refl in
    record { status = same.status; ttl = same.ttl }
heads_alike shape Memory size other close last = record { status = refl; ttl = refl }
heads_alike shape Unkept size other close last = record { status = refl; ttl = refl }
