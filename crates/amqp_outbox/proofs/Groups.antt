-- The frames of a group.
use Rattle.std.proofs.Common.{◌≡◌, ◌∙◌, ap, sym, refl, ℕ, suc, ◌-◌, ◌<◌, arith, List, [], ◌∷◌, ◌++◌, length, map, Some}
use Rattle.std.specs.List.{slice_index_or}
use Rattle.amqp_frame.specs.declared.frame.Frame.{Frame}
use Rattle.amqp_outbox.specs.declared.item.Item.{Item}
use Rattle.amqp_outbox.specs.Items.{plain_item, promised_item, channel_of, group_of, promise_of_group}

module _ (channel promise : ℕ) where
  -- all but the last answer no promise
  pub group-ends : (frames : List Frame) (last : Frame)
      → map (plain_item channel) frames ++ promised_item channel last promise ∷ [] ≡ group_of channel (frames ++ last ∷ []) promise
  group-ends [] last = refl
  group-ends (frame ∷ []) last = refl
  group-ends (frame ∷ next ∷ frames) last = ap (λ items. plain_item channel frame ∷ items) (group-ends (next ∷ frames) last)

  -- a group is on the channel of its frames
  pub group-channel : (frames : List Frame) → 0 < length frames → channel_of (group_of channel frames promise) ≡ Some channel
  group-channel [] some = absurd (omega (arith, some))
  group-channel (frame ∷ []) some = refl
  group-channel (frame ∷ next ∷ frames) some = refl

-- the promise of a group of two frames or more is that of the last of the others
pub promise-at : (first : Item) (rest : List Item) (d : Item) → 0 < length rest → promise_of_group (first ∷ rest) ≡ (slice_index_or rest (length rest - 1) d).promise
promise-at first [] d some = absurd (omega (arith, some))
promise-at first (item ∷ []) d some = refl
promise-at first (item ∷ next ∷ rest) d some =
    let later : length (item ∷ next ∷ rest) - 1 ≡ suc (length (next ∷ rest) - 1) = omega arith in
    promise-at item (next ∷ rest) d (omega arith)
    ∙ sym (ap (λ i. (slice_index_or (item ∷ next ∷ rest) i d).promise) later)
