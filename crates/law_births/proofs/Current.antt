-- Who is met in the words of the law is met by the handlers' tests, and the other way round.
use Rattle.std.proofs.Common.{ℕ, ◌≡◌, ◌≤◌, true, false, not, Option, None, Some, refl, sym, ap, ◌∙◌, eq-eqb}
use Rattle.std.proofs.lemmas.Bool.{and_from, and_parts, eqb-true, false≢true, le-ltb, ltb-false, not-true, not_from_false}
use Rattle.pg_run.specs.pg_edges.declared.edge.Edge.{Edge}
use Rattle.pg_run.specs.pg_edges.Edges.{edge_to}
use Rattle.pg_run.specs.pg_msg.declared.message.Ends.{Ends}
use Rattle.pg_run.specs.pg_replica.declared.replica.Replica.{Replica}
use Rattle.pg_run.specs.pg_replica.Replica.{is_born_later}
use Rattle.pg_run.specs.pg_replica.Replicas.{is_of_birth, or_nothing}
use Rattle.pg_run.specs.pg_store.declared.store.Store.{Store}
use Rattle.pg_run.specs.pg_store.Births.{has_birth}
use Rattle.pg_run.specs.pg_store.Links.{knows_later}
use Rattle.pg_run.specs.pg_store.Store.{replica_at}
use Rattle.pg_run.specs.pg_pieces.Accepting.{is_current}
use Rattle.pg_run.specs.Births.{IsMet}

not_later : (o : Option Edge) (birth : ℕ) → ((e : Edge) → o ≡ Some e → e.birth ≤ birth)
    → is_born_later o birth ≡ false
not_later None birth none = refl
not_later (Some e) birth none = le-ltb birth e.birth (none e refl)

pub current_of : (a : Store) (from : ℕ) (ends : Ends) → IsMet a from ends
    → is_current a from ends ≡ true
current_of a from ends k =
    and_from (has_birth a ends.file ends.receiver) (not (knows_later a ends.file from ends.sender))
    (ap (λ (o : Option Replica). is_of_birth o ends.receiver) k.held
    ∙ eq-eqb k.replica.birth ends.receiver k.birth)
    (not_from_false (knows_later a ends.file from ends.sender)
    (ap (λ (o : Option Replica). is_born_later (edge_to (or_nothing o).edges from) ends.sender) k.held
    ∙ not_later (edge_to k.replica.edges from) ends.sender k.none_later))

upto : (o : Option Edge) (birth : ℕ) → is_born_later o birth ≡ false → (e : Edge) → o ≡ Some e
    → e.birth ≤ birth
upto o birth none e at =
    ltb-false birth e.birth (sym (ap (λ (q : Option Edge). is_born_later q birth) at) ∙ none)

met_by : (a : Store) (from : ℕ) (ends : Ends) (o : Option Replica)
    → replica_at a ends.file ≡ o → is_of_birth o ends.receiver ≡ true
    → is_born_later (edge_to (or_nothing o).edges from) ends.sender ≡ false → IsMet a from ends
met_by a from ends None is born none = absurd (false≢true born)
met_by a from ends (Some x) is born none = record {
  replica = x;
  held = is;
  birth = eqb-true x.birth ends.receiver born;
  none_later = upto (edge_to x.edges from) ends.sender none;
}

pub met_of : (a : Store) (from : ℕ) (ends : Ends) → is_current a from ends ≡ true
    → IsMet a from ends
met_of a from ends current =
    let both = and_parts (has_birth a ends.file ends.receiver) _ current in
    met_by a from ends (replica_at a ends.file) refl both.0
    (not-true (knows_later a ends.file from ends.sender) both.1)
