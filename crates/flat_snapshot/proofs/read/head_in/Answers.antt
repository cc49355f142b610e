use Rattle.std.proofs.Common.{◌≡◌, ℕ, get_or, drop, sym, ◌∙◌, arith}
use Rattle.flat_snapshot.proofs.ReadLemmas.{parsed_page, within-from_none, rest_is}
use Rattle.flat_snapshot.proofs.read.head_in.Goals as goal

-- the parts that were tested are those of a page
pub returns-clause-page : goal.returns-clause-page
returns-clause-page c =
    let early = (within-from_none (get_or c.args.bytes.now 5 0) (get_or c.args.bytes.now 4 0) c.word_at-front.result c.word_at-commits.result c.word_at-moment.result (sym c.in_default.ensures)).early in
    (parsed_page c.args.bytes.now (drop 30 c.args.bytes.now) c.word_at-front.result c.word_at-commits.result c.word_at-moment.result c.word_at-moment.result (record {
      tested = record {
        long = c.if-found-lt-HEAD_BYTES.false;
        mark = sym c.has_mark.ensures ∙ c.if-not-has_mark.false;
        fields = c.in_default.ensures;
        front_is = c.word_at-front.ensures;
        commits_is = c.word_at-commits.ensures;
        seconds_is = c.word_at-moment.ensures;
        size = c.if-found-want.false;
      };
      small = c.word_at-commits.type_inv;
      bits_is = sym (rest_is 30 c.args.bytes.now);
      moment_is = omega (arith, early);
    })).0
