mod RestLaws
mod FrameLaws
mod RootLaws
pub mod SeenLaws
mod GivenLaws
mod HeadLaws
mod BodyLaws
