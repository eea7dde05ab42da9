-- The starred cases of 01's sample sheet hold, by computing. Where the edge rule is left open, the place is on no segment of the exterior; where a room is,
-- only its length counts.
use mathlib.Core.Path.{refl}
use borrow.Author.Tests.{le-ltb}
use lib.Ieee.{of_int, of_bits, to_bits, le, lt, eq, ne, sub, mul, div, is_nan}
use Rattle.floats.specs.Next.{next_up_of}
use Rattle.room.specs.Numbers.{keep, up_to}
use Rattle.room.specs.Room.{padded, room_of}
use Rattle.rings.specs.Ring.{meeting}
use Rattle.rings.specs.Checks.{ring_checked}
use Rattle.rings.specs.Listing.{listed_in, scanned_by}
use Rattle.rings.specs.RingTest.{test_from}
use Rattle.whole.specs.Round.{round_to}
use Rattle.cross.specs.Cross.{cross}
use Rattle.grid.specs.Grid.{is_on, is_flip}
use Rattle.turn.specs.Turn.{sum_to, turn_of, turned}
use Rattle.turn.specs.Order.{ring_of as points_of, reversed}
use Rattle.rays.specs.Raycast.{first_steps, last_steps, raycast_of}
use Rattle.stripes_place.specs.Stripe.{stripe_of}
use Rattle.whole.specs.Floor.{floor_within}
use Rattle.varint.specs.Leb128.{decode, size, encode, encode_in}
use Rattle.varint.specs.Uvarint.{read_uvarint, append_uvarint}
use Rattle.tree.specs.Tree.{tree_of, grown, differences, own_bytes, packed, nodes}
use Rattle.tree_build.specs.Build.{packed_in, from_threshold, tree_built_by}
use Rattle.outline_check.specs.Outline.{start_of, ring_of}
use Rattle.outline_check.specs.Rules.{for_from, shape_with, scale_checked, outline_with}
use Rattle.outline_record.specs.Record.{least_z, greatest_z, box_numbers, boxes_to}
use Rattle.outline_ring.specs.RingIndex.{ring_asked}
use Rattle.outline_ask.specs.Query.{scaled_query}
use Rattle.outline_ask.specs.Inside.{holes_from, through_rings, inside_of}
use Rattle.sheet.specs.Sheet.{SampleSheet}

pub sample_sheet : SampleSheet
unfolding scanned_by listed_in room_of padded ring_checked tree_built_by from_threshold packed_in nodes append_uvarint inside_of through_rings holes_from scaled_query ring_asked boxes_to box_numbers least_z greatest_z outline_with shape_with scale_checked for_from start_of ring_of packed own_bytes differences tree_of grown stripe_of floor_within mul meeting up_to keep test_from cross is_on is_flip round_to turned turn_of sum_to reversed points_of raycast_of first_steps last_steps ne sub div of_int le lt eq encode encode_in read_uvarint decode size next_up_of of_bits to_bits is_nan
sample_sheet =
    record {
      holds_5_5 = λ edge. refl;
      out_11_5 = λ edge. refl;
      edge_excluded = refl;
      edge_allowed = refl;
      in_hole = λ edge. refl;
      around_hole = λ edge. refl;
      on_rim = λ edge. refl;
      snaps_to_edge = refl;
      snapped_excluded = refl;
      snapped_allowed = refl;
      snaps_away = refl;
      snapped_out = λ edge. refl;
      list_at_0 = λ room e. rw e;
      list_at_10 = λ room e. rw e;
      list_below = λ room e. rw e;
      packs = λ threshold reached bytes work e f. rw (le-ltb 4 threshold reached, e, f);
      three_hundred = λ room e. rw e;
      eighty_nought = refl;
      turns = refl;
      backwards = refl;
      turns_back = refl;
      flat = refl;
      still = refl;
      stripe_of_5 = refl;
      stripe_of_10 = refl;
      next_up = refl;
    }
