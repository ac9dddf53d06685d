-- What of a channel is dropped first, whatever it is.
use Rattle.std.proofs.Common.{◌≡◌, ◌∙◌, ap, refl, ℕ, Bool, false, if◌then◌else◌, Option, Some, None, is_some}
use Rattle.std.specs.Prelude.{find}
use Rattle.std.specs.Option.{option_map}
use Rattle.amqp_outbox.specs.declared.item.Item.{Item}
use Rattle.amqp_outbox.specs.Items.{promise_of_group}
use Rattle.amqp_outbox.specs.Queued.{Queued, goes_with, is_on, group_promise, without_group, frame_promise, without_frame, without_reply, without_any}
use Rattle.amqp_outbox.proofs.Taking.{none-left_out}

none-before : {X Y : Type 0} (f : X → Y) (o : Option X) → None ≡ option_map f o → o ≡ None
none-before f None h = refl
none-before f (Some x) h = absurd cc

module _ (channel : ℕ) (q : Queued) where
  abbrev choice : Bool → Bool → Queued
  choice group frame = if group then without_group channel q else (if frame then without_frame channel q else without_reply channel q)

  -- no group of the channel waits
  pub none-group : None ≡ group_promise channel q → without_group channel q ≡ q
  none-group none =
      ap (λ l. record q { publish = l }) (none-left_out (is_on channel) q.publish (none-before promise_of_group (find (is_on channel) q.publish) none))

  -- no frame of the channel waits that is dropped with it
  pub none-frame : None ≡ frame_promise channel q → without_frame channel q ≡ q
  none-frame none =
      ap (λ l. record q { control = l }) (none-left_out (goes_with channel) q.control (none-before (λ (i : Item). i.promise) (find (goes_with channel) q.control) none))

  module _ (no_group : None ≡ group_promise channel q) where
    pub without-frame : (p : Option ℕ) → Some p ≡ frame_promise channel q → without_frame channel q ≡ without_any channel q
    without-frame p is =
        ap (λ o. choice false (is_some o)) is ∙ ap (λ o. choice (is_some o) (is_some (frame_promise channel q))) no_group

    pub without-reply : None ≡ frame_promise channel q → without_reply channel q ≡ without_any channel q
    without-reply is =
        ap (λ o. choice false (is_some o)) is ∙ ap (λ o. choice (is_some o) (is_some (frame_promise channel q))) no_group
