use Rattle.std.proofs.Common.{◌≡◌, true, subst, sym, List, ℕ}
use Rattle.std.specs.Prelude.{Option, IfSome}
use Rattle.std.specs.Option.{option_copied}
use Rattle.http_front.specs.Origins.{is_origin}
use Rattle.http_front.proofs.OriginLemmas.{told_short}
use Rattle.http_front.proofs.head.put_told.Goals as goal

pub put_origin-behind-requires-clause-origin : goal.put_origin-behind-requires-clause-origin
put_origin-behind-requires-clause-origin c =
    told_short (option_copied c.allow.result)
    (subst (λ (o : Option (List ℕ)). IfSome o (λ origin. is_origin origin ≡ true)) (sym c.allow.ensures.is) c.allow.ensures.tellable)
