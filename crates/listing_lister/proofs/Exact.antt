-- Any two results that meet the promise of `feed` are one.
-- Assumes nothing.
use Prim.Native.Nat.{ℕ}
use mathlib.Core.Path.{◌≡◌, refl, sym, ◌∙◌}
use mathlib.Core.Bool.{Bool, true, false}
use mathlib.Core.List.{List}
use lib.ListN.{length}
use Rattle.base_shared.specs.Choice.{pick_t}
use Rattle.ivf_walk.specs.declared.Turn.{Turn}
use Rattle.listing_lister.specs.declared.Lister.{Lister}
use Rattle.listing_lister.specs.declared.Fed.{Fed}
use Rattle.listing_lister.specs.Feed.{has_room, turn_at, Answers, unfed, Feeds}

one_answer : {out : List ℕ} {at : ℕ} {l : Lister} {s : List ℕ} {t : Turn} {r₁ r₂ : Fed} {a₁ a₂ : List ℕ} → Answers out at l s t r₁ a₁ → Answers out at l s t r₂ a₂ → (r₁ ≡ r₂) × (a₁ ≡ a₂)
one_answer {r₁ = r₁} {r₂ = r₂} h k =
    let e : r₁.lister ≡ r₂.lister = h.lister ∙ sym k.lister in
    let u : r₁.used ≡ r₂.used = h.used ∙ sym k.used in
    let w : r₁.wants ≡ r₂.wants = h.wants ∙ sym k.wants in
    let p : r₁.at ≡ r₂.at = h.text.place ∙ sym k.text.place in
    (λ i. record { lister = e i; used = u i; at = p i; wants = w i }, h.text.text ∙ sym k.text.text)

pub one_feed : (out : List ℕ) (at : ℕ) (l : Lister) (s : List ℕ) (ended : Bool) (r₁ r₂ : Fed) (a₁ a₂ : List ℕ) → Feeds out at l s ended r₁ a₁ → Feeds out at l s ended r₂ a₂ → (r₁ ≡ r₂) × (a₁ ≡ a₂)
one_feed out at l s ended r₁ r₂ a₁ a₂ h k = go (has_room (length out) at) h k
  where
    go : (b : Bool) → pick_t b (Answers out at l s (turn_at l s ended) r₁ a₁) ((r₁ ≡ unfed l at) × (a₁ ≡ out)) → pick_t b (Answers out at l s (turn_at l s ended) r₂ a₂) ((r₂ ≡ unfed l at) × (a₂ ≡ out)) → (r₁ ≡ r₂) × (a₁ ≡ a₂)
    go true x y = one_answer x y
    go false x y = (x.0 ∙ sym y.0, x.1 ∙ sym y.1)
