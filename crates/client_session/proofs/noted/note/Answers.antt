use Rattle.std.proofs.Common.{◌≡◌, Option, sym, ap, subst}
use Rattle.std.specs.Prelude.{IfSome}
use Rattle.flat_snapshot.specs.Sight.{mark_of}
use Rattle.query_normal.specs.Keys.{key_text}
use Rattle.client_session.specs.declared.noted.KeyFloor.{KeyFloor}
use Rattle.client_session.proofs.NotedLemmas.{marked_more}
use Rattle.client_session.proofs.noted.note.Goals as goal

-- the key has its own mark, and each other key what it had
pub returns-clause-marks : goal.returns-clause-marks
returns-clause-marks c = λ marked key.
    subst (λ (found : Option KeyFloor). IfSome found (λ n. n.mark ≡ mark_of (key_text key))) (sym (c.in-Ok.ensures.updates.0 key))
    (marked_more c.args.kept.now.entries c.args.key (record { commit = c.max.result; mark = c.args.known.mark }) (ap (λ (f : KeyFloor). f.mark) c.requires.known) marked key)
