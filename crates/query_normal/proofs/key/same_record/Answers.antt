use Rattle.query_normal.proofs.KeyTexts.{same_text-same_key}
use Rattle.std.proofs.Common.{ap₂, ◌∙◌}
use Rattle.std.specs.Prelude.{bytes_eq}
use Rattle.query_normal.proofs.key.same_record.Goals as goal

-- the texts were compared, and keys are equal where their texts are
pub returns : goal.returns
returns c =
    c.eq.ensures
    ∙ ap₂ bytes_eq c.text.ensures.text c.text-2.ensures.text
    ∙ same_text-same_key c.args.a.now c.args.b.now c.text.ensures.valid c.text-2.ensures.valid c.requires
