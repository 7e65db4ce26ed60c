-- Each enum's numbers and variants are inverse to each other, by the one law of Numbered: `try_from` gives a variant
-- exactly to its number.
-- Assumes nothing.
use mathlib.Core.Path.{◌≡◌, refl}
use Prim.Native.Nat.{ℕ, ◌<◌}
use Rattle.base_enums.specs.Numbered.{Decides}
use Rattle.base_enums.proofs.Numbered.{Listed, decides, comes_back}
use Rattle.base_enums.specs.InterpolationFilter.{filter_number, filters, filter_numbered, filter_of_literal}
use Rattle.base_enums.specs.declared.InterpolationFilter.TheVariants.{EightTap, EightTapSmooth, EightTapSharp, Bilinear, Switchable}
use Rattle.base_enums.specs.ReferenceFrameType.{reference_number, references, reference_numbered}
use Rattle.base_enums.specs.declared.ReferenceFrameType.TheVariants.{Intra, Last, Golden, AltRef}
use Rattle.base_enums.specs.FrameType.{frame_type_number, frame_types, frame_type_numbered}
use Rattle.base_enums.specs.declared.FrameType.TheVariants.{KeyFrame, InterFrame}
use Rattle.base_enums.specs.Profile.{profile_number, profiles, profile_numbered, profile_of}
use Rattle.base_enums.specs.declared.Profile.TheVariants.{Profile0, Profile1, Profile2, Profile3}
use Rattle.base_enums.specs.BitDepth.{depth_number, depths, depth_numbered}
use Rattle.base_enums.specs.declared.BitDepth.TheVariants.{Depth8, Depth10, Depth12}
use Rattle.base_enums.specs.ColorSpace.{color_space_number, color_spaces, color_space_numbered, color_space_of}
use Rattle.base_enums.specs.declared.ColorSpace.TheVariants.{Unknown, Bt601, Bt709, Smpte170, Smpte240, Bt2020, Reserved2, CsSrgb}
use Rattle.base_enums.specs.ColorRange.{color_range_number, color_ranges, color_range_numbered, color_range_of}
use Rattle.base_enums.specs.declared.ColorRange.TheVariants.{StudioSwing, FullSwing}
use Rattle.base_enums.specs.declared.InterpolationFilter.{InterpolationFilter}

filters_listed : Listed filter_number filters
filters_listed EightTap = refl
filters_listed EightTapSmooth = refl
filters_listed EightTapSharp = refl
filters_listed Bilinear = refl
filters_listed Switchable = refl

pub filters_decided : Decides filter_number filter_numbered
filters_decided = decides filter_number filters filters_listed

references_listed : Listed reference_number references
references_listed Intra = refl
references_listed Last = refl
references_listed Golden = refl
references_listed AltRef = refl

pub references_decided : Decides reference_number reference_numbered
references_decided = decides reference_number references references_listed

frame_types_listed : Listed frame_type_number frame_types
frame_types_listed KeyFrame = refl
frame_types_listed InterFrame = refl

pub frame_types_decided : Decides frame_type_number frame_type_numbered
frame_types_decided = decides frame_type_number frame_types frame_types_listed

profiles_listed : Listed profile_number profiles
profiles_listed Profile0 = refl
profiles_listed Profile1 = refl
profiles_listed Profile2 = refl
profiles_listed Profile3 = refl

pub profiles_decided : Decides profile_number profile_numbered
profiles_decided = decides profile_number profiles profiles_listed

depths_listed : Listed depth_number depths
depths_listed Depth8 = refl
depths_listed Depth10 = refl
depths_listed Depth12 = refl

pub depths_decided : Decides depth_number depth_numbered
depths_decided = decides depth_number depths depths_listed

color_spaces_listed : Listed color_space_number color_spaces
color_spaces_listed Unknown = refl
color_spaces_listed Bt601 = refl
color_spaces_listed Bt709 = refl
color_spaces_listed Smpte170 = refl
color_spaces_listed Smpte240 = refl
color_spaces_listed Bt2020 = refl
color_spaces_listed Reserved2 = refl
color_spaces_listed CsSrgb = refl

pub color_spaces_decided : Decides color_space_number color_space_numbered
color_spaces_decided = decides color_space_number color_spaces color_spaces_listed

color_ranges_listed : Listed color_range_number color_ranges
color_ranges_listed StudioSwing = refl
color_ranges_listed FullSwing = refl

pub color_ranges_decided : Decides color_range_number color_range_numbered
color_ranges_decided = decides color_range_number color_ranges color_ranges_listed

-- The readings of one to three bits lose nothing: what they give has the number that was read.
pub profile_read : (n : ℕ) → n < 4 → profile_number (profile_of n) ≡ n
profile_read = comes_back profile_number profile_of 4 tt

pub color_space_read : (n : ℕ) → n < 8 → color_space_number (color_space_of n) ≡ n
color_space_read = comes_back color_space_number color_space_of 8 tt

pub color_range_read : (n : ℕ) → n < 2 → color_range_number (color_range_of n) ≡ n
color_range_read = comes_back color_range_number color_range_of 2 tt

-- the literal of each filter; Switchable's lies past two bits
abbrev filter_literal : InterpolationFilter → ℕ
filter_literal EightTapSmooth = 0
filter_literal EightTap = 1
filter_literal EightTapSharp = 2
filter_literal Bilinear = 3
filter_literal Switchable = 4

pub literal_read : (n : ℕ) → n < 4 → filter_literal (filter_of_literal n) ≡ n
literal_read = comes_back filter_literal filter_of_literal 4 tt
