use Rattle.std.proofs.Common.{inl, inr}
use Rattle.pg_program.proofs.Ends.{answers, does, fronts, node_ends, safe, writes}
use Rattle.pg_program.proofs.Heeded.{heeded, left, replays, silent}
use Rattle.pg_command.specs.declared.command.Command.TheVariants.{Make, Soak, Help}
use Rattle.pangaea.proofs.command.run.Goals as goal

-- ---- what is done for the words

pub returns-clause-done : goal.returns-clause-done
returns-clause-done g c = λ command asks e. writes _ _ _ command _ _ _ _ (c.heed.ensures.obeys command asks).acts e

pub returns-clause-prefix : goal.returns-clause-prefix
returns-clause-prefix g c = λ command asks e. fronts _ _ _ command _ _ _ _ (c.heed.ensures.obeys command asks).acts e

pub returns-clause-whole : goal.returns-clause-whole
returns-clause-whole g c = λ asks. (replays c.heed.ensures asks).1.whole

pub returns-clause-whole_first : goal.returns-clause-whole_first
returns-clause-whole_first g c = λ asks. (replays c.heed.ensures asks).1.whole_first

pub returns-clause-unread : goal.returns-clause-unread
returns-clause-unread g c = (left c.heed.ensures).unread

pub returns-clause-untouched : goal.returns-clause-untouched
returns-clause-untouched g c = (left c.heed.ensures).untouched

pub returns-clause-does : goal.returns-clause-does
returns-clause-does g c = λ command asks. does _ _ _ command _ _ _ _ (c.heed.ensures.obeys command asks).acts

pub returns-clause-silent : goal.returns-clause-silent
returns-clause-silent g c = silent c.heed.ensures

pub returns-clause-same_net : goal.returns-clause-same_net
returns-clause-same_net g c = (left c.heed.ensures).same_net

pub returns-clause-same_disk : goal.returns-clause-same_disk
returns-clause-same_disk g c = (left c.heed.ensures).same_disk

pub returns-clause-same_clock : goal.returns-clause-same_clock
returns-clause-same_clock g c = (left c.heed.ensures).same_clock

pub returns-clause-crash : goal.returns-clause-crash
returns-clause-crash g c = λ command asks. safe _ _ _ command _ _ _ _ (c.heed.ensures.obeys command asks).acts

-- ---- when it ends how

pub returns-clause-usage : goal.returns-clause-usage
returns-clause-usage g c = c.heed.ensures.usage

pub returns-clause-read : goal.returns-clause-read
returns-clause-read g c = (heeded c.heed.ensures).read

pub returns-clause-write : goal.returns-clause-write
returns-clause-write g c = (heeded c.heed.ensures).write

pub returns-clause-end : goal.returns-clause-end
returns-clause-end g c = λ asks. node_ends _ _ _ asks.0 _ _ _ _ asks.1 (c.heed.ensures.obeys asks.0 asks.2).acts

pub returns-clause-net : goal.returns-clause-net
returns-clause-net g c = (heeded c.heed.ensures).net

pub returns-clause-disk : goal.returns-clause-disk
returns-clause-disk g c = (heeded c.heed.ensures).disk

pub returns-clause-log : goal.returns-clause-log
returns-clause-log g c = λ command asks tells. answers _ _ _ command _ _ _ _ (c.heed.ensures.obeys command asks).acts tells

pub returns-clause-bad_log : goal.returns-clause-bad_log
returns-clause-bad_log g c = (heeded c.heed.ensures).bad_log

pub returns-clause-other_log : goal.returns-clause-other_log
returns-clause-other_log g c = (heeded c.heed.ensures).other_log

pub returns-clause-spent : goal.returns-clause-spent
returns-clause-spent g c = (heeded c.heed.ensures).spent

pub returns-clause-refused_call : goal.returns-clause-refused_call
returns-clause-refused_call g c = (heeded c.heed.ensures).refused

pub returns-clause-long : goal.returns-clause-long
returns-clause-long g c = (heeded c.heed.ensures).long

pub returns-clause-short : goal.returns-clause-short
returns-clause-short g c = λ input asks. (replays c.heed.ensures asks).1.short input

pub returns-clause-bad : goal.returns-clause-bad
returns-clause-bad g c = (heeded c.heed.ensures).bad

pub returns-clause-whole_bad : goal.returns-clause-whole_bad
returns-clause-whole_bad g c = (heeded c.heed.ensures).whole_bad

pub returns-clause-first_bad : goal.returns-clause-first_bad
returns-clause-first_bad g c = λ input n f asks. (replays c.heed.ensures asks).1.first_bad input n f

pub returns-clause-complete : goal.returns-clause-complete
returns-clause-complete g c = λ asks. (replays c.heed.ensures asks).1.complete

pub returns-clause-complete_made : goal.returns-clause-complete_made
returns-clause-complete_made g c = λ numbers asks. elim asks [
  | inl x ↦ (c.heed.ensures.obeys (Make numbers) x).acts.complete
  | inr x ↦ (c.heed.ensures.obeys (Soak numbers) x).acts.complete
]

pub returns-clause-complete_help : goal.returns-clause-complete_help
returns-clause-complete_help g c = λ help asks. (c.heed.ensures.obeys (Help help) asks).acts.complete

-- ---- what holds of all runs

pub returns-clause-took : goal.returns-clause-took
returns-clause-took g c = λ n. (c.laws_of_runs.ensures n).took

pub returns-clause-took_by : goal.returns-clause-took_by
returns-clause-took_by g c = λ n. (c.laws_of_runs.ensures n).took_by

pub returns-clause-merge : goal.returns-clause-merge
returns-clause-merge g c = λ n. (c.laws_of_runs.ensures n).merge

pub returns-clause-names : goal.returns-clause-names
returns-clause-names g c = λ n. (c.laws_of_runs.ensures n).names

pub returns-clause-shows : goal.returns-clause-shows
returns-clause-shows g c = λ n few.
    let laws = c.laws_of_runs.ensures n in
    c.shows_are_states.ensures n (laws.merge few) (laws.names few)

pub returns-clause-heads : goal.returns-clause-heads
returns-clause-heads g c = λ n. (c.laws_of_runs.ensures n).heads

pub returns-clause-determined : goal.returns-clause-determined
returns-clause-determined g c = λ n. (c.laws_of_runs.ensures n).determined

pub returns-clause-determined_names : goal.returns-clause-determined_names
returns-clause-determined_names g c = λ n. (c.laws_of_runs.ensures n).determined_names

pub returns-clause-histories : goal.returns-clause-histories
returns-clause-histories g c = λ n. (c.laws_of_runs.ensures n).histories

pub returns-clause-one_version_a_stamp : goal.returns-clause-one_version_a_stamp
returns-clause-one_version_a_stamp g c = λ n. (c.laws_of_runs.ensures n).one_version_a_stamp

pub returns-clause-one_place : goal.returns-clause-one_place
returns-clause-one_place g c = λ n. (c.laws_of_runs.ensures n).one_place

pub returns-clause-one_stamp : goal.returns-clause-one_stamp
returns-clause-one_stamp g c = λ n. (c.laws_of_runs.ensures n).one_stamp

pub returns-clause-ancestry : goal.returns-clause-ancestry
returns-clause-ancestry g c = λ n. (c.laws_of_runs.ensures n).ancestry

pub returns-clause-carried : goal.returns-clause-carried
returns-clause-carried g c = λ n. (c.laws_of_runs.ensures n).carried

pub returns-clause-clock : goal.returns-clause-clock
returns-clause-clock g c = λ n. (c.laws_of_runs.ensures n).clock

pub returns-clause-bodies : goal.returns-clause-bodies
returns-clause-bodies g c = λ n. (c.laws_of_runs.ensures n).bodies

pub returns-clause-first_harbingers : goal.returns-clause-first_harbingers
returns-clause-first_harbingers g c = λ n. (c.laws_of_runs.ensures n).first_harbingers

pub returns-clause-one_asked : goal.returns-clause-one_asked
returns-clause-one_asked g c = λ n. (c.laws_of_runs.ensures n).one_asked

pub returns-clause-one_in_each : goal.returns-clause-one_in_each
returns-clause-one_in_each g c = λ n. (c.laws_of_runs.ensures n).one_in_each

pub returns-clause-kept_deltas : goal.returns-clause-kept_deltas
returns-clause-kept_deltas g c = λ n. (c.laws_of_runs.ensures n).kept_deltas

pub returns-clause-given : goal.returns-clause-given
returns-clause-given g c = λ n. (c.laws_of_runs.ensures n).given

pub returns-clause-order : goal.returns-clause-order
returns-clause-order g c = λ n. (c.laws_of_runs.ensures n).order

pub returns-clause-by_steps : goal.returns-clause-by_steps
returns-clause-by_steps g c = λ n. (c.laws_of_runs.ensures n).by_steps

pub returns-clause-intends : goal.returns-clause-intends
returns-clause-intends g c = λ n. (c.laws_of_runs.ensures n).intends

pub returns-clause-confirms : goal.returns-clause-confirms
returns-clause-confirms g c = λ n. (c.laws_of_runs.ensures n).confirms

pub returns-clause-confirms_only : goal.returns-clause-confirms_only
returns-clause-confirms_only g c = λ n. (c.laws_of_runs.ensures n).confirms_only

pub returns-clause-in_turn : goal.returns-clause-in_turn
returns-clause-in_turn g c = λ n. (c.laws_of_runs.ensures n).in_turn

pub returns-clause-owed : goal.returns-clause-owed
returns-clause-owed g c = λ n. (c.laws_of_runs.ensures n).owed

pub returns-clause-refused : goal.returns-clause-refused
returns-clause-refused g c = λ n. (c.laws_of_runs.ensures n).refused

pub returns-clause-refused_steps : goal.returns-clause-refused_steps
returns-clause-refused_steps g c = c.refused_steps_change_nothing.ensures (λ n. (c.laws_of_runs.ensures n).refused)

pub returns-clause-views : goal.returns-clause-views
returns-clause-views g c = λ n. (c.laws_of_runs.ensures n).views

pub returns-clause-messages_of_views : goal.returns-clause-messages_of_views
returns-clause-messages_of_views g c = λ n. (c.laws_of_runs.ensures n).messages_of_views

pub returns-clause-rests : goal.returns-clause-rests
returns-clause-rests g c = λ n. (c.laws_of_runs.ensures n).rests

pub returns-clause-none_to_removed : goal.returns-clause-none_to_removed
returns-clause-none_to_removed g c = λ n. (c.laws_of_runs.ensures n).none_to_removed

pub returns-clause-golds : goal.returns-clause-golds
returns-clause-golds g c = λ n. (c.laws_of_runs.ensures n).golds

pub returns-clause-golds_are_linked : goal.returns-clause-golds_are_linked
returns-clause-golds_are_linked g c = λ n. (c.laws_of_runs.ensures n).golds_are_linked

pub returns-clause-known : goal.returns-clause-known
returns-clause-known g c = λ n. (c.laws_of_runs.ensures n).known

pub returns-clause-one_birth_at_a_time : goal.returns-clause-one_birth_at_a_time
returns-clause-one_birth_at_a_time g c = λ n. (c.laws_of_runs.ensures n).one_birth_at_a_time

pub returns-clause-births_of_one_thing : goal.returns-clause-births_of_one_thing
returns-clause-births_of_one_thing g c = λ n. (c.laws_of_runs.ensures n).births_of_one_thing

pub returns-clause-edges : goal.returns-clause-edges
returns-clause-edges g c = λ n. (c.laws_of_runs.ensures n).edges

pub returns-clause-linked : goal.returns-clause-linked
returns-clause-linked g c = λ n. (c.laws_of_runs.ensures n).linked

pub returns-clause-asked_linked : goal.returns-clause-asked_linked
returns-clause-asked_linked g c = λ n. (c.laws_of_runs.ensures n).asked_linked

pub returns-clause-acked_is_had : goal.returns-clause-acked_is_had
returns-clause-acked_is_had g c = λ n. (c.laws_of_runs.ensures n).acked_is_had

pub returns-clause-drops : goal.returns-clause-drops
returns-clause-drops g c = λ n. (c.laws_of_runs.ensures n).drops

pub returns-clause-gone_is_over : goal.returns-clause-gone_is_over
returns-clause-gone_is_over g c = λ n. (c.laws_of_runs.ensures n).gone_is_over

pub returns-clause-heard : goal.returns-clause-heard
returns-clause-heard g c = λ n. (c.laws_of_runs.ensures n).heard

pub returns-clause-byes : goal.returns-clause-byes
returns-clause-byes g c = λ n. (c.laws_of_runs.ensures n).byes

pub returns-clause-told : goal.returns-clause-told
returns-clause-told g c = λ n. (c.laws_of_runs.ensures n).told

pub returns-clause-quiet : goal.returns-clause-quiet
returns-clause-quiet g c = (c.laws_of_runs.ensures 0).quiet

pub returns-clause-joined : goal.returns-clause-joined
returns-clause-joined g c = λ n. (c.laws_of_runs.ensures n).joined

pub returns-clause-agree : goal.returns-clause-agree
returns-clause-agree g c = λ n. (c.laws_of_runs.ensures n).agree

pub returns-clause-tree : goal.returns-clause-tree
returns-clause-tree g c = λ n. (c.laws_of_runs.ensures n).tree

pub returns-clause-listed : goal.returns-clause-listed
returns-clause-listed g c = λ n. (c.laws_of_runs.ensures n).listed

pub returns-clause-no_dead_parent : goal.returns-clause-no_dead_parent
returns-clause-no_dead_parent g c = λ n. (c.laws_of_runs.ensures n).no_dead_parent

pub returns-clause-kept : goal.returns-clause-kept
returns-clause-kept g c = λ n. (c.laws_of_runs.ensures n).kept

pub returns-clause-kept_agree : goal.returns-clause-kept_agree
returns-clause-kept_agree g c = λ n. (c.laws_of_runs.ensures n).kept_agree

pub returns-clause-kept_tree : goal.returns-clause-kept_tree
returns-clause-kept_tree g c = λ n. (c.laws_of_runs.ensures n).kept_tree

pub returns-clause-kept_listed : goal.returns-clause-kept_listed
returns-clause-kept_listed g c = λ n. (c.laws_of_runs.ensures n).kept_listed

pub returns-clause-kept_back : goal.returns-clause-kept_back
returns-clause-kept_back g c = λ n. (c.laws_of_runs.ensures n).kept_back

pub returns-clause-justified : goal.returns-clause-justified
returns-clause-justified g c = λ n. (c.laws_of_runs.ensures n).justified

pub returns-clause-returns_list : goal.returns-clause-returns_list
returns-clause-returns_list g c = λ n. (c.laws_of_runs.ensures n).returns_list

pub returns-clause-removal_stays : goal.returns-clause-removal_stays
returns-clause-removal_stays g c = λ n. (c.laws_of_runs.ensures n).removal_stays

pub returns-clause-forget_stays : goal.returns-clause-forget_stays
returns-clause-forget_stays g c = λ n. (c.laws_of_runs.ensures n).forget_stays
