-- The first version of a file: there is room for it, and it is not refused.
use Rattle.std.proofs.Common.{ℕ, ◌≡◌, true, refl, sym, ap, subst, ◌∙◌, [], Option, None, Some}
use Rattle.pg_base.specs.declared.policy.Policy.{Policy}
use Rattle.pg_base.specs.declared.policy.Policy.TheVariants.{Last, Join}
use Rattle.pg_patch.specs.Ranges.{RangesValue, applied}
use Rattle.pg_content.specs.Content.{ContentValue}
use Rattle.pg_content.specs.declared.error.WriteError.{WriteError}
use Rattle.pg_cells.specs.pg_replica.declared.replica.Replica.{Replica}
use Rattle.pg_cells.specs.pg_replica.Replica.{has_room, refusal_of}
use Rattle.pg_calls.specs.Making.{first_ranges}

-- a content without a version
abbrev empty : Policy → ContentValue
empty policy = record { policy = policy; heads = [] }

abbrev with_content : Replica → ContentValue → Replica
with_content x content = record x { content = content }

content_is : (x : Replica) → x.content.heads ≡ [] → x ≡ with_content x (empty x.content.policy)
content_is x none = ap (λ h. with_content x (record { policy = x.content.policy; heads = h })) none

-- where there is no version there is room for a number
pub room_at_first : (x : Replica) (server : ℕ) → x.content.heads ≡ [] → has_room x server ≡ true
room_at_first x server none =
    let P : Replica → Type 0 = λ y. has_room y server ≡ true in
    subst P (sym (content_is x none)) refl

allowed : (x : Replica) (policy : Policy) (server : ℕ) → refusal_of (with_content x (empty policy)) server first_ranges ≡ None
unfolding applied
allowed x Last server = refl
allowed x Join server = refl

-- and the version is not refused: it has no byte, and its vector one actor
pub never_refused : (x : Replica) (server : ℕ) (ranges : RangesValue) (why : WriteError) → x.content.heads ≡ []
    → ranges ≡ first_ranges → refusal_of x server ranges ≡ Some why → ⊥
never_refused x server ranges why none first refused =
    let free : refusal_of x server ranges ≡ None =
    ap (refusal_of x server) first
    ∙ ap (λ (y : Replica). refusal_of y server first_ranges) (content_is x none)
    ∙ allowed x x.content.policy server in
    let both : ◌≡◌ {A = Option WriteError} None (Some why) = sym free ∙ refused in
    cc
