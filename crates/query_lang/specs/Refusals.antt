-- Believed. Refusals, and when a result of the code is the one that is wanted.
use Rattle.std.specs.Prelude.{◌≡◌, ℕ, List, codes, Result, Ok, Err}
use Rattle.query_lang.specs.declared.refusal.QueryRefusal.{QueryRefusal}
use Rattle.query_lang.specs.declared.refusal.QueryRefusal.TheVariants.{Syntax, BadNumber, TooManyPaths, TooMany, TooNested, TooDeep, Memory}
use Rattle.query_lang.specs.declared.refusal.Cause.{Cause}
use Rattle.query_lang.specs.declared.refusal.Cause.TheVariants as cause

-- the refusal of a field for a cause at an offset
abbrev pub refused : ℕ → ℕ → Cause → QueryRefusal
refused field place cause.Syntax = Syntax field place
refused field place cause.BadNumber = BadNumber field place
refused field place cause.TooManyPaths = TooManyPaths place
refused field place cause.TooNested = TooNested place
refused field place cause.Memory = Memory

-- the refusal's word in replies
abbrev pub word : QueryRefusal → List ℕ
word (Syntax field place) = codes "syntax"
word (BadNumber field place) = codes "bad_number"
word (TooManyPaths place) = codes "too_many_paths"
word (TooMany leaves) = codes "too_many"
word (TooNested place) = codes "too_nested"
word (TooDeep depth) = codes "too_deep"
word Memory = codes "memory"

-- an answer of the code, seen so, is the one that is wanted, unless memory ran out
abbrev pub Gives : {A B : Type 0} → (A → B) → Result A QueryRefusal → Result B QueryRefusal → Type 0
Gives seen (Ok a) wanted = wanted ≡ Ok (seen a)
Gives seen (Err Memory) wanted = Unit {0}
Gives seen (Err e) wanted = wanted ≡ Err e

-- the same of an answer to one token
abbrev pub Takes : {A B : Type 0} → (A → B) → Result A Cause → Result B Cause → Type 0
Takes seen (Ok a) wanted = wanted ≡ Ok (seen a)
Takes seen (Err cause.Memory) wanted = Unit {0}
Takes seen (Err e) wanted = wanted ≡ Err e
