-- Calls that go on: what they make, put together from what their parts make.
use Rattle.std.proofs.Common.{ℕ, ◌≡◌, ◌<◌, ◌↔◌, sym, ap, refl, ◌∙◌, IfOk, IsErrOf, List, Result, Ok, Err}
use Rattle.pg_base.specs.declared.id.FileId.{FileId}
use Rattle.pg_base.specs.declared.id.Kind.{Kind}
use Rattle.pg_base.specs.declared.id.Kind.TheVariants.{Dir, File}
use Rattle.pg_base.specs.declared.policy.Policy.{Policy}
use Rattle.pg_base.specs.declared.policy.Policy.TheVariants.{Last}
use Rattle.pg_patch.specs.Ranges.{RangesValue}
use Rattle.pg_patch.specs.declared.error.RangeError.{RangeError}
use Rattle.pg_patch.specs.declared.error.RangeError.TheVariants.{TooLong, OutOfMemory}
use Rattle.pg_content.specs.Content.{body_limit}
use Rattle.pg_cells.specs.pg_msg.declared.work.Work.{Work}
use Rattle.pg_cells.specs.pg_call.declared.reply.Reply.TheVariants.{Made}
use Rattle.pg_checks.specs.pg_lookup.declared.paths.LookupError.{LookupError}
use Rattle.pg_cells.specs.pg_store.declared.store.Store.{Store}
use Rattle.pg_cells.specs.pg_pieces.Done.{Done, idle}
use Rattle.pg_checks.specs.declared.checks.NewName.{NewName}
use Rattle.pg_checks.specs.Answer.{answer, answered}
use Rattle.pg_calls.specs.Bodies.{IsAlwaysTooLong, Makes}
use Rattle.pg_checks.specs.Checks.{new_name}
use Rattle.pg_calls.specs.Naming.{create, mkdir, next_id, with_first_version, with_id, with_thing}

-- ---- new things

both_parts : (d : Done) (after : Store) (so_far : Work) → after ≡ d.store → so_far ≡ d.work → idle after so_far ≡ d
both_parts d after so_far left so =
    ap (λ (s : Store). idle s so_far) left ∙ ap (λ (w : Work). idle d.store w) so

module _ (store given : Store) (work : Work) (text : List ℕ) (new : NewName) (id : FileId) where
  pub thing_made : (kind : Kind) (policy : Policy) → given ≡ with_id store → id ≡ next_id store kind
      → with_thing given work id policy new ≡ with_thing (with_id store) work (next_id store kind) policy new
  thing_made kind policy is same =
      ap (λ (s : Store). with_thing s work id policy new) is
      ∙ ap (λ (x : FileId). with_thing (with_id store) work x policy new) same

  pub mkdir_is : new_name store (next_id store Dir) text ≡ Ok new → given ≡ with_id store → id ≡ next_id store Dir
      → mkdir store text work ≡ answer (with_thing given work id Last new) (Made id)
  mkdir_is found is same =
      ap (λ (r : Result NewName LookupError). answered store work r
      (λ n. answer (with_thing (with_id store) work (next_id store Dir) Last n) (Made (next_id store Dir)))) found
      ∙ ap (λ (d : Done). answer d (Made (next_id store Dir))) (sym (thing_made Dir Last is same))
      ∙ ap (λ (x : FileId). answer (with_thing given work id Last new) (Made x)) (sym same)

  -- what the thing leaves is where the first version begins
  pub create_is : (policy : Policy) (after : Store) (so_far : Work) → new_name store (next_id store File) text ≡ Ok new
      → given ≡ with_id store → id ≡ next_id store File → after ≡ (with_thing given work id policy new).store
      → so_far ≡ (with_thing given work id policy new).work
      → create store text policy work ≡ answer (with_first_version id (idle after so_far)) (Made id)
  create_is policy after so_far found is same left so =
      ap (λ (r : Result NewName LookupError). answered store work r
      (λ n. answer (with_first_version (next_id store File)
      (with_thing (with_id store) work (next_id store File) policy n)) (Made (next_id store File)))) found
      ∙ ap (λ (d : Done). answer (with_first_version (next_id store File) d) (Made (next_id store File)))
      (sym (thing_made File policy is same) ∙ sym (both_parts (with_thing given work id policy new) after so_far left so))
      ∙ ap (λ (x : FileId). answer (with_first_version x (idle after so_far)) (Made x)) (sym same)

-- ---- ranges

pub makes : (result : Result RangesValue RangeError) (ranges : RangesValue) (n : ℕ) → IfOk result (λ r. r ≡ ranges)
    → IsErrOf result TooLong ↔ (body_limit < n) → (body_limit < n → IsAlwaysTooLong ranges) → Makes result ranges
makes (Ok made) ranges n is long always = is
makes (Err TooLong) ranges n is long always = always (long.0 refl)
makes (Err OutOfMemory) ranges n is long always = tt
