-- Replicas are fields.
use Rattle.std.proofs.Common.{◌≡◌, ℕ, Bool, List, ◌++◌, Option, None, refl, sym, ap, subst}
use Rattle.pg_base.specs.declared.id.FileId.{FileId}
use Rattle.pg_base.specs.declared.id.Kind.{Kind}
use Rattle.pg_base.specs.declared.id.Kind.TheVariants.{Dir, File}
use Rattle.pg_base.specs.declared.policy.Policy.{Policy}
use Rattle.pg_codec.specs.Laws.{Any, HasWidth, IsField}
use Rattle.pg_codec.specs.Spelling.{file_bytes, flag_bytes, number_bytes}
use Rattle.pg_codec.proofs.Binding.{both_are}
use Rattle.pg_edges.specs.declared.edge.Edge.{Edge}
use Rattle.pg_names.specs.declared.attributes.Attributes.{Attributes}
use Rattle.pg_packet_write.specs.Fields.{listed, policy_bytes}
use Rattle.pg_packet_fields.proofs.Joining.{then_is, view_is}
use Rattle.pg_packet_fields.proofs.PlaceFields.{flag_is}
use Rattle.pg_packet_fields.proofs.Plain.{narrow_is, policy_field, wide_is}
use Rattle.pg_state_fields.specs.Edges.{AreEdges}
use Rattle.pg_state_fields.specs.Flags.{IsOwn}
use Rattle.pg_state_fields.specs.Orders.{Passes, next_file_at}
use Rattle.pg_state_fields.specs.Replicas.{AreHeld, IsFront, IsHeld, IsInside, all_held_at, back_at, front_at, front_of, held_at, held_with, inside_at, inside_of, is_policy_of, policy_of_at, to_held, with_entries, with_heads}
use Rattle.pg_state_fields.specs.declared.replicas.Front.{Front}
use Rattle.pg_state_fields.specs.declared.replicas.Held.{Held}
use Rattle.pg_state_fields.specs.declared.replicas.Inside.{Inside}
use Rattle.pg_state_fields.specs.Spelling.{back_bytes, front_bytes, held_spelling, inside_spelling}
use Rattle.pg_state_fields.proofs.ContentFields.{deltas_field, heads_field}
use Rattle.pg_state_fields.proofs.EdgeFields.{edges_field}
use Rattle.pg_state_fields.proofs.FlagFields.{entries_field, next_file_field, own_field}
use Rattle.pg_state_fields.proofs.Tested.{counted_list_is, tested_is}

policy_of_field : (kind : Kind) → IsField (Passes Any (is_policy_of kind)) policy_bytes (policy_of_at kind)
unfolding policy_of_at
policy_of_field kind = tested_is policy_field (is_policy_of kind)

-- ---- how a replica begins

abbrev front_view : FileId × (ℕ × (Policy × Bool)) → Front
front_view x = record { file = x.0; birth = x.1.0; policy = x.1.1.0; full = x.1.1.1 }

front_field : (last : Option FileId) → IsField (IsFront last) front_bytes (front_at last)
unfolding front_at front_bytes
front_field last = view_is
    (both_are _ file_bytes (next_file_at last) (λ file (x : ℕ × (Policy × Bool)). HasWidth 8 x.0 × (Passes Any (is_policy_of file.kind) x.1.0 × Any x.1.1)) (λ file x. number_bytes 8 x.0 ++ (policy_bytes x.1.0 ++ flag_bytes x.1.1)) _ (next_file_field last)
    (λ file _. then_is wide_is (then_is (policy_of_field file.kind) flag_is))) front_view (IsFront last) front_bytes
    (λ x fits. (record { file = fits.0; birth = fits.1.0; policy = fits.1.1.0 }, refl))
    (λ f fits. ((f.file, (f.birth, (f.policy, f.full))), (fits.file, (fits.birth, (fits.policy, tt))), refl))

-- ---- what it holds

inside_field : (kind : Kind) (policy : Policy) → IsField (IsInside kind policy) (inside_spelling kind) (inside_at kind policy)
unfolding inside_at inside_spelling
inside_field Dir policy = view_is entries_field (with_entries policy) (IsInside Dir policy) (inside_spelling Dir)
    (λ es fits. ((fits, refl), refl))
    (λ i fits. (i.entries, fits.0, sym fits.1))
inside_field File policy = view_is (then_is heads_field deltas_field) (λ x. with_heads policy x.0 x.1) (IsInside File policy) (inside_spelling File)
    (λ x fits. ((fits, refl), refl))
    (λ i fits. ((i.content.heads, i.kept), fits.0, sym fits.1))

abbrev IsBack : Kind → Policy → Attributes × (Inside × List Edge) → Type 0
IsBack kind policy x = IsOwn x.0 × (IsInside kind policy x.1.0 × AreEdges x.1.1)

back_field : (kind : Kind) (policy : Policy) → IsField (IsBack kind policy) (back_bytes kind) (back_at kind policy)
unfolding back_at back_bytes
back_field kind policy = then_is own_field (then_is (inside_field kind policy) edges_field)

-- ---- replicas

abbrev held_view : Front × (Attributes × (Inside × List Edge)) → Held
held_view x = held_with x.0 x.1.0 x.1.1.0 x.1.1.1

inside_policy : (kind : Kind) (policy : Policy) (i : Inside) → IsInside kind policy i → i.content.policy ≡ policy
inside_policy Dir policy i fits = ap (λ (x : Inside). x.content.policy) fits.1
inside_policy File policy i fits = ap (λ (x : Inside). x.content.policy) fits.1

held_to : (last : Option FileId) (f : Front) (own : Attributes) (i : Inside) (es : List Edge) (policy : Policy) → i.content.policy ≡ policy
    → IsFront last (record f { policy = policy }) → IsOwn own → IsInside f.file.kind policy i → AreEdges es
    → IsHeld last (held_with f own i es) × (held_spelling (held_with f own i es) ≡ front_bytes (record f { policy = policy }) ++ back_bytes f.file.kind (own, (i, es)))
unfolding held_spelling
held_to last f own i es policy same front is_own inside edges =
    let P : Policy → Type 0 = λ (p : Policy). IsFront last (record f { policy = p }) → IsInside f.file.kind p i
    → IsHeld last (held_with f own i es) × (held_spelling (held_with f own i es) ≡ front_bytes (record f { policy = p }) ++ back_bytes f.file.kind (own, (i, es))) in
    subst P same (λ fr ins. (record { front = fr; own = is_own; inside = ins; edges = edges }, refl)) front inside

held_field : (last : Option FileId) → IsField (IsHeld last) held_spelling (held_at last)
unfolding held_at
held_field last = view_is
    (both_are (IsFront last) front_bytes (front_at last) (λ f. IsBack f.file.kind f.policy) (λ f. back_bytes f.file.kind) (λ f. back_at f.file.kind f.policy) (front_field last)
    (λ f _. back_field f.file.kind f.policy)) held_view (IsHeld last) held_spelling
    (λ x fits. held_to last x.0 x.1.0 x.1.1.0 x.1.1.1 x.0.policy (inside_policy x.0.file.kind x.0.policy x.1.1.0 fits.1.1.0) fits.0 fits.1.0 fits.1.1.0 fits.1.1.1)
    (λ h fits. ((front_of h, (h.own, (inside_of h, h.replica.edges))), (fits.front, (fits.own, (fits.inside, fits.edges))), refl))

pub all_held_field : IsField AreHeld (listed 4 held_spelling) all_held_at
unfolding all_held_at
all_held_field = counted_list_is IsHeld to_held held_spelling held_at held_field 4 None narrow_is
