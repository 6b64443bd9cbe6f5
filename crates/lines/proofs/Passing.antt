-- What a step of the walk over lines gives. Assumes nothing.
use Prim.Native.Nat.{ℕ, ◌+◌, ◌-◌, ◌<◌}
use native.Mathlib.Omega.{arith}
use mathlib.Core.Path.{◌≡◌, refl, sym, subst}
use Rattle.std.proofs.Common.{Option, Some, None}
use Rattle.std.specs.Iterator.{MakesProgress, at_most}
use Rattle.lattice.specs.declared.Sizes.{Sizes}
use Rattle.lattice.specs.declared.Site.{Site}
use Rattle.lattice.specs.Axis.{along_x}
use Rattle.lattice.specs.Counts.{grid, points}
use Rattle.lines.specs.declared.walk.Lines.{Lines}
use Rattle.lines.specs.inner.Lines.{Line}
use Rattle.lines.specs.inner.Walk.{Comes, CanPass, Passes, ahead_from, points_ahead}
use Rattle.lines.proofs.Lines.{some, line_own}

pub line_ahead : {s : Sizes} {p : ℕ} {o : Option Site} {q : Site} → Comes s p o → o ≡ Some q → Line s p q
line_ahead {s} {p} c e = subst (Comes s p) e c

-- the line ahead is q, and after it comes o
module _ (l : Lines) (q : Site) (o : Option Site) (e : l.ahead ≡ Some q)
    (after : Comes l.lattice.sizes (q.own + grid l.lattice.sizes q.kind along_x) o) where
  abbrev next : Lines
  next = record { lattice = l.lattice; ahead = o }

  pub passes : Passes l (Some q) next
  passes s p w =
      let line = line_ahead w.comes e in
      let here = subst (λ (t : Sizes). Comes t (q.own + grid t q.kind along_x) o) w.same after in
      (line, record { same = w.same; comes = subst (λ (n : ℕ). Comes s (n + grid s q.kind along_x) o) (line_own line) here })

  fewer : (n : ℕ) → q.own < n → n ≡ points l.lattice.sizes → (r : Option Site)
      → Comes l.lattice.sizes (q.own + grid l.lattice.sizes q.kind along_x) r → ahead_from n r < n - q.own
  fewer n h f None c = omega arith
  fewer n h f (Some r) c =
      omega (arith, line_own c, some l.lattice.sizes l.lattice.sized q.kind)

  pub goes : CanPass l → MakesProgress CanPass (λ (w : Lines). at_most (points_ahead w)) l (Some q) next
  goes can =
      let line = line_ahead can.1.comes e in
      let own = line_own line in
      let less = fewer (points l.lattice.sizes) (omega (arith, line.below)) refl o after in
      let then : CanPass next = (q.own + grid l.lattice.sizes q.kind along_x, record { same = refl; comes = after }) in
      record {
        on = λ _. (then, tt, subst (λ (w : Option Site). ahead_from (points l.lattice.sizes) o < ahead_from (points l.lattice.sizes) w) (sym e) less);
        keeps = then;
        rests = λ _. tt;
      }
