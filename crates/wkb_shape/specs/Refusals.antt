-- 02, CR 1: "10 bytes end early or are left over, 11 byte order or type unknown, both with the byte place where the field starts; 12 a scaled coordinate
-- not finite or not in i32 after rounding, place its ring". Every other refusal is 01's own.
use Rattle.std.specs.Prelude.{ℕ}
use Rattle.answers.specs.Refusals.{number_of, place_of}
use Rattle.wkb_shape.specs.declared.WkbRefusal.{WkbRefusal}
use Rattle.wkb_shape.specs.declared.WkbRefusal.TheVariants.{Ends, Unknown, Unstored, Plain}

abbrev pub wkb_number : WkbRefusal → ℕ
wkb_number (Ends at) = 10
wkb_number (Unknown at) = 11
wkb_number (Unstored ring) = 12
wkb_number (Plain why) = number_of why

abbrev pub wkb_place : WkbRefusal → ℕ
wkb_place (Ends at) = at
wkb_place (Unknown at) = at
wkb_place (Unstored ring) = ring
wkb_place (Plain why) = place_of why
