pub mod NumberLaws
pub mod GivenLaws
pub mod FileLaws
pub mod InstanceLaws
pub mod ScaleLaws
pub mod MeetLaws
