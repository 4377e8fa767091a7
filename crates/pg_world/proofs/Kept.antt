-- Runs of events that grow by one.
use Rattle.std.proofs.Common.{ℕ, ◌≡◌, ◌+◌, ◌∙◌, [], ◌∷◌, ◌++◌, ap, zero, suc, arith}
use Rattle.pg_event.specs.declared.event.Event.{Event}
use Rattle.pg_event.specs.declared.event.Event.TheVariants.{Tick}
use Rattle.pg_world.specs.EventList.{ticks}

-- one tick more, of the server behind the last
ticks_more : (first moment count : ℕ) → ticks first moment (suc count) ≡ ticks first moment count ++ Tick (first + count) moment 0 ∷ []
ticks_more first moment zero =
    let e : first ≡ first + 0 = omega arith in ap (λ s. Tick s moment 0 ∷ []) e
ticks_more first moment (suc count) =
    let e : (first + 1) + count ≡ first + suc count = omega arith in
    ap (λ es. Tick first moment 0 ∷ es)
    (ticks_more (first + 1) moment count ∙ ap (λ s. ticks (first + 1) moment count ++ Tick s moment 0 ∷ []) e)

pub one_tick_more : (first moment count more server at word : ℕ) (e : Event) → e ≡ Tick server at word → at ≡ moment → word ≡ 0
    → server ≡ first + count → more ≡ count + 1 → ticks first moment more ≡ ticks first moment count ++ e ∷ []
one_tick_more first moment count more server at word e is same none next one =
    let some : more ≡ suc count = omega arith in
    let tick : Tick (first + count) moment 0 ≡ e = cc in
    ap (ticks first moment) some ∙ ticks_more first moment count ∙ ap (λ x. ticks first moment count ++ x ∷ []) tick
