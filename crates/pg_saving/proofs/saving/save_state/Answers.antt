use Rattle.std.proofs.Common.{◌≡◌, ◌++◌, ◌∙◌, ◌<◌, ◌^◌, ℕ, List, length, Option, Some, Err, ap, sym, subst, true≢false}
use Rattle.pg_checkpoint.specs.Loads.{LoadsOldOrNew, next}
use Rattle.pg_checkpoint.specs.Saves.{Loads, SlotsLeave}
use Rattle.pg_checkpoint.specs.Slots.{Slot}
use Rattle.pg_checkpoint.proofs.Outcomes.{keeps_all}
use Rattle.pg_disk.specs.Told.{Told}
use Rattle.pg_saving.specs.Saves.{LeavesSaved}
use Rattle.pg_state.specs.Spelling.{state_bytes}
use Rattle.pg_saving.proofs.Outcomes.{done_leaves, full_ends, none_leaves, none_saved, now_saved}
use Rattle.pg_saving.proofs.saving.save_state.Goals as goal

pub returns-then-not-is_savable-clause-any_moment : goal.returns-then-not-is_savable-clause-any_moment
returns-then-not-is_savable-clause-any_moment g c = λ tells settled was loads. none_leaves c.args.server c.args.servers c.args.folded c.args.store.now (g.D.Disk.told c.args.disk.now) settled was loads

pub returns-then-not-is_savable-clause-others : goal.returns-then-not-is_savable-clause-others
returns-then-not-is_savable-clause-others g c = λ tells. keeps_all (g.D.Disk.told c.args.disk.now)

pub returns-in_err-write-clause-any_moment : goal.returns-in_err-write-clause-any_moment
returns-in_err-write-clause-any_moment g c = λ tells settled was loads. none_leaves c.args.server c.args.servers c.args.folded c.args.store.now (g.D.Disk.told c.args.disk.now) settled was loads

pub returns-in_err-write-clause-others : goal.returns-in_err-write-clause-others
returns-in_err-write-clause-others g c = λ tells. keeps_all (g.D.Disk.told c.args.disk.now)

pub returns-then-not-is_short-clause-any_moment : goal.returns-then-not-is_short-clause-any_moment
returns-then-not-is_short-clause-any_moment g c = λ tells settled was loads. none_leaves c.args.server c.args.servers c.args.folded c.args.store.now (g.D.Disk.told c.args.disk.now) settled was loads

pub returns-then-not-is_short-clause-others : goal.returns-then-not-is_short-clause-others
returns-then-not-is_short-clause-others g c = λ tells. keeps_all (g.D.Disk.told c.args.disk.now)

pub returns-then-not-is_savable-clause-saved : goal.returns-then-not-is_savable-clause-saved
returns-then-not-is_savable-clause-saved g c = λ tells was loads.
    none_saved c.args.server c.args.servers c.args.folded c.args.store.now (g.D.Disk.told c.args.disk.now) was loads (λ can. true≢false (sym (c.is_savable.ensures.1 can.is) ∙ c.if-not-is_savable.true))

pub returns-then-not-is_short-clause-saved : goal.returns-then-not-is_short-clause-saved
returns-then-not-is_short-clause-saved g c = λ tells was loads.
    let is : c.write.new.out ≡ state_bytes c.args.store.now = c.in_ok-write.ensures ∙ ap (λ (l : List ℕ). l ++ state_bytes c.args.store.now) c.new-bytes.ensures in
    none_saved c.args.server c.args.servers c.args.folded c.args.store.now (g.D.Disk.told c.args.disk.now) was loads (λ can. true≢false (sym (c.is_short.ensures.1 (subst (λ (l : List ℕ). length l < 2 ^ 32) (sym is) can.short)) ∙ c.if-not-is_short.true))

pub returns-in-Ok-clause-any_moment : goal.returns-in-Ok-clause-any_moment
returns-in-Ok-clause-any_moment g c = λ tells settled was loads.
    let is : c.write.new.out ≡ state_bytes c.args.store.now = c.in_ok-write.ensures ∙ ap (λ (l : List ℕ). l ++ state_bytes c.args.store.now) c.new-bytes.ensures in
    let e : c.as_slice.result.now ≡ state_bytes c.args.store.now = c.as_slice.ensures ∙ is in
    done_leaves c.args.server c.args.servers c.args.folded c.args.store.now (g.D.Disk.told c.args.disk.now) (g.D.Disk.told c.save.new.disk) (c.is_savable.ensures.0 c.if-not-is_savable.false) c.states_are_read.ensures.read was
    (subst (λ (l : List ℕ). SlotsLeave (g.D.Disk.told c.args.disk.now) (g.D.Disk.told c.save.new.disk) (LoadsOldOrNew was (next was c.args.folded l))) e (c.save.ensures.any_moment tells settled was loads))

pub returns-in-OutOfMemory-clause-any_moment : goal.returns-in-OutOfMemory-clause-any_moment
returns-in-OutOfMemory-clause-any_moment g c = λ tells settled was loads.
    let is : c.write.new.out ≡ state_bytes c.args.store.now = c.in_ok-write.ensures ∙ ap (λ (l : List ℕ). l ++ state_bytes c.args.store.now) c.new-bytes.ensures in
    let e : c.as_slice.result.now ≡ state_bytes c.args.store.now = c.as_slice.ensures ∙ is in
    done_leaves c.args.server c.args.servers c.args.folded c.args.store.now (g.D.Disk.told c.args.disk.now) (g.D.Disk.told c.save.new.disk) (c.is_savable.ensures.0 c.if-not-is_savable.false) c.states_are_read.ensures.read was
    (subst (λ (l : List ℕ). SlotsLeave (g.D.Disk.told c.args.disk.now) (g.D.Disk.told c.save.new.disk) (LoadsOldOrNew was (next was c.args.folded l))) e (c.save.ensures.any_moment tells settled was loads))

pub returns-clause-any_moment : goal.returns-clause-any_moment
returns-clause-any_moment g c = λ tells settled was loads.
    let is : c.write.new.out ≡ state_bytes c.args.store.now = c.in_ok-write.ensures ∙ ap (λ (l : List ℕ). l ++ state_bytes c.args.store.now) c.new-bytes.ensures in
    let e : c.as_slice.result.now ≡ state_bytes c.args.store.now = c.as_slice.ensures ∙ is in
    done_leaves c.args.server c.args.servers c.args.folded c.args.store.now (g.D.Disk.told c.args.disk.now) (g.D.Disk.told c.save.new.disk) (c.is_savable.ensures.0 c.if-not-is_savable.false) c.states_are_read.ensures.read was
    (subst (λ (l : List ℕ). SlotsLeave (g.D.Disk.told c.args.disk.now) (g.D.Disk.told c.save.new.disk) (LoadsOldOrNew was (next was c.args.folded l))) e (c.save.ensures.any_moment tells settled was loads))

pub returns-in-Ok-clause-saved : goal.returns-in-Ok-clause-saved
returns-in-Ok-clause-saved g c = λ tells was loads.
    let is : c.write.new.out ≡ state_bytes c.args.store.now = c.in_ok-write.ensures ∙ ap (λ (l : List ℕ). l ++ state_bytes c.args.store.now) c.new-bytes.ensures in
    let e : c.as_slice.result.now ≡ state_bytes c.args.store.now = c.as_slice.ensures ∙ is in
    let short : length (state_bytes c.args.store.now) < 2 ^ 32 = subst (λ (l : List ℕ). length l < 2 ^ 32) is (c.is_short.ensures.0 c.if-not-is_short.false) in
    now_saved c.args.server c.args.servers c.args.folded c.args.store.now (g.D.Disk.told c.args.disk.now) (g.D.Disk.told c.save.new.disk) (c.is_savable.ensures.0 c.if-not-is_savable.false) c.states_are_read.ensures.read short
    (λ full. true≢false (sym (c.in-Ok.ensures.whole tells full).0))
    (subst (λ (l : List ℕ). (w : Option Slot) × Loads (g.D.Disk.told c.args.disk.now) w × Loads (g.D.Disk.told c.save.new.disk) (Some (next w c.args.folded l))) e (c.in-Ok.ensures.saved tells)) was loads

pub returns-in-Full-clause-any_moment : goal.returns-in-Full-clause-any_moment
returns-in-Full-clause-any_moment g c = λ tells settled was loads.
    let full = c.in-Err.ensures.full (ap Err c.in-Full.is) tells in
    subst (λ (t : Told). SlotsLeave (g.D.Disk.told c.args.disk.now) t (LeavesSaved c.args.server c.args.servers c.args.folded c.args.store.now was)) (sym full.1) (none_leaves c.args.server c.args.servers c.args.folded c.args.store.now (g.D.Disk.told c.args.disk.now) settled was loads)

pub returns-in-Full-clause-saved : goal.returns-in-Full-clause-saved
returns-in-Full-clause-saved g c = λ tells was loads.
    let full = c.in-Err.ensures.full (ap Err c.in-Full.is) tells in
    let none = none_saved c.args.server c.args.servers c.args.folded c.args.store.now (g.D.Disk.told c.args.disk.now) was loads (full_ends c.args.server c.args.servers c.args.folded c.args.store.now (g.D.Disk.told c.args.disk.now) full.0 was loads) in
    (none.0, none.1, subst (λ (t : Told). Loads t none.0) (sym full.1) none.2)
