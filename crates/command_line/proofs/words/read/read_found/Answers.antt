-- the words are those of a read
use Rattle.std.proofs.Common.{Some, refl, sym, ap, ◌∙◌}
use Rattle.command_line.proofs.words.read.read_found.Goals as goal

pub returns-in-Ok : goal.returns-in-Ok
returns-in-Ok c = (
  refl,
  record {
    address = c.word_of-address.ensures;
    level = c.word_of-written.ensures ∙ ap Some c.in-Some.ensures.some;
    key = c.word_of-found.ensures ∙ ap Some (sym (c.in-Ok.ensures.found ∙ c.as_bytes.ensures.value));
    is_key = c.text-text.ensures.valid;
  },
)
