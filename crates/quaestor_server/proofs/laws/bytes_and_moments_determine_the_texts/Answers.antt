-- item by item, both connections did the same
use Rattle.quaestor_server.proofs.DeterminedLemmas.{texts_are_determined}
use Rattle.quaestor_server.proofs.laws.bytes_and_moments_determine_the_texts.Goals as goal

pub returns : goal.returns
returns c = texts_are_determined c.bytes_determine_the_items.ensures c.replies_have_one_text.ensures
