-- The three kinds of frame along the reading of a frame's kind.
-- Assumes nothing.
use Prim.Native.Nat.{ℕ}
use mathlib.Core.Path.{◌≡◌, refl, sym, ap, ◌∙◌}
use mathlib.Core.Bool.{Bool, true, false}
use mathlib.Core.List.{List}
use Rattle.std.specs.Prelude.{Result, Ok}
use Rattle.std.specs.Result.{IsErrAnd, result_from_control_flow}
use Rattle.std.proofs.Common.{Continue, Break}
use Rattle.std.proofs.lemmas.Result.{err_from_is_err_and}
use Rattle.base_bits.specs.declared.Cursor.{Cursor}
use Rattle.base_bits.specs.declared.Refusal.{Refusal}
use Rattle.base_syntax.specs.Syntax.{flag}
use Rattle.base_syntax.specs.Reader.{Read, over, alter, group_if, said}
use Rattle.base_syntax.proofs.Steps.{group_step, group_stop, tail, alter_over}
use Rattle.base_size.specs.declared.FrameSize.{FrameSize}
use Rattle.part_traits.specs.declared.Kind.{Kind}
use Rattle.part_traits.specs.Kind.{read_kind, kind_of}
use Rattle.part_color.specs.declared.Color.{Color}
use Rattle.header_picture.specs.declared.Picture.{Picture}
use Rattle.header_picture.specs.Key.{read_key, key_of}
use Rattle.header_picture.specs.IntraOnly.{read_intra_only, intra_only_of}
use Rattle.header_inter.specs.Inter.{read_inter, inter_of}
use Rattle.header_lead.specs.declared.Shot.{Shot}
use Rattle.header_lead.specs.Shot.{with_kind, read_shot, shot_of}

-- the kind of a key frame
abbrev key_kind : Kind
key_kind = record { intra_only = false; reset_frame_context = 0 }

-- what is answered for a picture's reading: the picture with its kind, or the picture's refusal
module _ (kind : Kind) (y : Result (Picture × Cursor) Refusal) where
  pub pictured : {b : _} (v : Picture) (c : Cursor) → y ≡ result_from_control_flow b → b ≡ Continue (v, c) → Ok (with_kind kind v, c) ≡ alter (with_kind kind) y
  pictured v c d h = rw (d, h)

  pub unpictured : {b : _} {z : _} (x : Result (Shot × Cursor) Refusal) → y ≡ result_from_control_flow b → b ≡ Break z → IsErrAnd x (λ w. w ≡ z.0) → x ≡ alter (with_kind kind) y
  unpictured x d h i = let j = err_from_is_err_and x i in rw (d, h, j.1, j.2)

  altered : {A : Type 0} (f : A → Picture) (m : Read A) (x : Result (Shot × Cursor) Refusal) → x ≡ alter (with_kind kind) y → y ≡ over f m → x ≡ over (λ a. with_kind kind (f a)) m
  altered f m x ex ey = ex ∙ ap (alter (with_kind kind)) ey ∙ alter_over said (with_kind kind) f m

module _ (profile : ℕ) (color : Color) (slots : List FrameSize) (key shown resilient : Bool) (s : List ℕ) (p : ℕ) where
  abbrev Shoots : Result (Shot × Cursor) Refusal → Type 0
  Shoots x = x ≡ over (shot_of profile key color slots) (read_shot profile key shown resilient s p)

  pub key_shot : key ≡ true → (x : Result (Shot × Cursor) Refusal) (y : Result (Picture × Cursor) Refusal) → y ≡ over (key_of profile) (read_key profile s p) → x ≡ alter (with_kind key_kind) y → Shoots x
  unfolding read_shot shot_of group_if kind_of
  key_shot k x y ey ex =
      rw k (tail said _ _ (λ a. with_kind key_kind (key_of profile a)) (read_key profile s p) x (altered key_kind y (key_of profile) (read_key profile s p) x ex ey) (λ a q. refl))

  module _ (k : key ≡ false) (r : Result (Kind × Cursor) Refusal) (e : r ≡ over kind_of (read_kind shown resilient s p)) {b : _} (d : r ≡ result_from_control_flow b) where
    pub no_kind_shot : {z : _} (x : Result (Shot × Cursor) Refusal) → b ≡ Break z → IsErrAnd x (λ w. w ≡ z.0) → Shoots x
    unfolding read_shot group_if
    no_kind_shot x h i = rw k (group_stop said kind_of (read_kind shown resilient s p) _ _ r e x d h i)

    module _ (v : Kind × Cursor) (h : b ≡ Continue v) (x : Result (Shot × Cursor) Refusal) (y z : Result (Picture × Cursor) Refusal) (ex : x ≡ alter (with_kind v.0) y) (yz : y ≡ z) where
      pub intra_only_shot : v.0.intra_only ≡ true → z ≡ over (intra_only_of profile) (read_intra_only profile s v.1.at) → Shoots x
      unfolding read_shot shot_of group_if kind_of
      intra_only_shot i ez = rw k (group_step said kind_of (read_kind shown resilient s p) _ _ r e v x d h λ a ea.
          let f : flag a.intra_only ≡ true = sym (ap (λ (a : Kind). a.intra_only) ea) ∙ i in
          rw f (tail said _ _ (λ b. with_kind v.0 (intra_only_of profile b)) (read_intra_only profile s v.1.at) x (altered v.0 y (intra_only_of profile) (read_intra_only profile s v.1.at) x ex (yz ∙ ez)) (λ b n. rw (ea, f))))

      pub inter_shot : v.0.intra_only ≡ false → z ≡ over (inter_of color slots) (read_inter s v.1.at) → Shoots x
      unfolding read_shot shot_of group_if kind_of
      inter_shot i ez = rw k (group_step said kind_of (read_kind shown resilient s p) _ _ r e v x d h λ a ea.
          let f : flag a.intra_only ≡ false = sym (ap (λ (a : Kind). a.intra_only) ea) ∙ i in
          rw f (tail said _ _ (λ b. with_kind v.0 (inter_of color slots b)) (read_inter s v.1.at) x (altered v.0 y (inter_of color slots) (read_inter s v.1.at) x ex (yz ∙ ez)) (λ b n. rw (ea, f))))
