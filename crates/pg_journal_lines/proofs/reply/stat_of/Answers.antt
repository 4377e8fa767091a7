use Rattle.std.proofs.Common.{rules, []}
use Rattle.pg_journal_lines.proofs.ReplyWords.{behind_six, six, stat_spelled}
use Rattle.pg_journal_lines.proofs.reply.stat_of.Goals as goal

pub returns-in_default-tallies_of-clause-none : goal.returns-in_default-tallies_of-clause-none
returns-in_default-tallies_of-clause-none c h =
    let s = h.0 in
    let fits = h.1 in
    c.in_default-tallies_of.ensures.none s.golds s.heads s.length s.edges fits.golds fits.heads fits.count fits.edges
    (behind_six _ _ _ _ _ _ _ _ s h.2 (six c.args.words.now (record { ref_ptr = (0, 0); now = [] }) c.in-len6-up.len_at_least))

pub returns-clause-found : goal.returns-clause-found
returns-clause-found c =
    let place = rw c.in-Some-2.is at c.in_ok-place.ensures.found in (
      record { id = c.in-Some.ensures.found.0; place = place.0; golds = search rules; heads = search rules; count = search rules; edges = search rules },
      stat_spelled _ _ _ _ _ _ _ _ _ (six c.args.words.now _ c.in-len6-up.len_at_least) c.in-Some.ensures.found.1 place.1 c.in-Some-read_gold.ensures.found c.in-Some-tallies_of.ensures.found,
    )
