-- the moment of the page is not above the greatest
use Rattle.std.proofs.Common.{◌≤◌, ℕ, [], Option, sym, ap, ◌∙◌, subst, option_map}
use Rattle.std.specs.Prelude.{unwrap_or}
use Rattle.query_normal.specs.Pages.{Page}
use Rattle.q_base.specs.Moment.{greatest_moment}
use Rattle.flat_snapshot.specs.PageText.{page_text}
use Rattle.hub_core.specs.PageRoom.{PageRoomView}
use Rattle.world_core.proofs.store.page_in.Goals as goal

pub returns : goal.returns
returns c = λ p has is.
    let moment = ap (λ (held : Option Page). unwrap_or (option_map (λ (page : Page). page.moment) held) 0) has in
    let early : p.moment ≤ greatest_moment =
    subst (λ (n : ℕ). n ≤ greatest_moment) (c.seconds-seconds.ensures.same ∙ c.moment.ensures ∙ moment) c.seconds-seconds.ensures.capped in
    c.page_of_text.ensures p (c.bytes.ensures ∙ ap (λ (held : Option Page). unwrap_or (option_map page_text held) []) has) (is early)
