-- a run ends where a character does
use Rattle.query_lang.proofs.ByteLemmas.{IsCharBoundary-run}
use Rattle.query_lang.proofs.bytes.split_run.Goals as goal

pub split_at-requires : goal.split_at-requires
split_at-requires c = rw c.run_len.ensures.len (IsCharBoundary-run c.args.class c.args.text.now c.utf8.text)
